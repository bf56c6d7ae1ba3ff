-- What C sees of an event of channels: a record, and bytes.
use Rattle.std.specs.Prelude.{IsUtf8, ◌≡◌, ◌==◌, ℕ, Option, Some, None, cond, List, [], length}
use Rattle.sctp_c_records.specs.Event.{bytes_of, event_bytes, record_of, shown}
use Rattle.sctp_c_records.specs.declared.event.EventRecord.{EventRecord}
use Rattle.sctp_channels.specs.declared.payload.PayloadKind.{PayloadKind}
use Rattle.sctp_channels.specs.declared.payload.PayloadKind.TheVariants.{Text, Binary}
use Rattle.sctp_channels.specs.declared.event.ChannelEvent.{ChannelEvent}
use Rattle.sctp_channels.specs.declared.event.ChannelEvent.TheVariants as events
use Rattle.sctp_channels.specs.declared.output.Refusal.{Refusal}
use Rattle.sctp_channels.specs.declared.output.Refusal.TheVariants as refusals
use Rattle.sctp_state.specs.Events.{event_of}

abbrev pub kind_number : PayloadKind → ℕ
kind_number Text = 17
kind_number Binary = 18

abbrev pub kind_at : ℕ → Option PayloadKind
kind_at n = cond (n == 17) (Some Text) (cond (n == 18) (Some Binary) None)

-- text is UTF-8
abbrev pub IsSendable : PayloadKind → List ℕ → Type 0
IsSendable Text payload = IsUtf8 payload
IsSendable Binary payload = Unit {0}

abbrev pub refusal_number : Refusal → ℕ
refusal_number (refusals.BadMessage fault) = 1
refusal_number refusals.WrongParity = 2
refusal_number refusals.NoSuchStream = 3
refusal_number refusals.StreamInUse = 4
refusal_number refusals.NoChannel = 5
refusal_number refusals.UnknownPayloadProtocol = 6
refusal_number refusals.TooLong = 7
refusal_number refusals.NoRoom = 8

-- an event of the socket as without channels; the others have kinds of their own, and a stream
abbrev pub head_of : ChannelEvent → EventRecord
head_of (events.Opened id) = shown 16 0 id.0 0 0
head_of (events.Message id kind bytes) = shown (kind_number kind) 0 id.0 0 (length bytes.items)
head_of (events.BufferedAmountLow id) = shown 6 0 id.0 0 0
head_of (events.Closed id) = shown 19 0 id.0 0 0
head_of (events.Refused id why) = shown 20 (refusal_number why) id.0 0 0
head_of (events.Socket event) = record_of (event_of event)

abbrev pub content_of : ChannelEvent → List ℕ
content_of (events.Message id kind bytes) = bytes.items
content_of (events.Socket event) = bytes_of (event_of event)
content_of _ = []

-- an event was handed out: its struct was written, and these are its bytes
pub record Shows (old new : List ℕ) (bytes : List ℕ) : Type 0 where
  pub event : ChannelEvent
  pub head : new ≡ event_bytes (head_of event) old
  pub content : bytes ≡ content_of event
