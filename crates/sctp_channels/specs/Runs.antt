-- What happens to a channel from its beginning on, and the data that comes for it.
use Rattle.std.specs.Prelude.{ℕ, ◌+◌, ◌≤◌, cond, Bool, true, false, ◌||◌, Option, Some, None, List, [], ◌∷◌, length}
use Rattle.sctp_serial.specs.Messages.{Message}
use Rattle.sctp_channels.specs.declared.payload.PayloadKind.{PayloadKind}
use Rattle.sctp_channels.specs.declared.payload.PayloadProtocol.{PayloadProtocol}
use Rattle.sctp_channels.specs.Payload.{data_message, protocol_of}
use Rattle.sctp_channels.specs.Channel.{Channel, Received, message, nothing, on_data, received}
use Rattle.sctp_channels.specs.Lifecycle.{asks_for_reset, close, confirm, deny, drain, finish, stop_incoming}
use Rattle.sctp_channels.specs.declared.lifecycle.Lifecycle.{Lifecycle}

pub data Act : Type 0 where
  confirms : Act
  closes : Act
  stops_incoming : Act
  drains : (buffered : ℕ) → Act
  finishes : Act
  denies : Act

abbrev pub act : Act → Lifecycle → Lifecycle
act confirms l = confirm l
act closes l = close l
act stops_incoming l = stop_incoming l
act (drains buffered) l = drain buffered l
act finishes l = finish l
act denies l = deny l

abbrev pub run : List Act → Lifecycle → Lifecycle
run [] l = l
run (a ∷ acts) l = run acts (act a l)

-- the act asks for a reset of the stream
abbrev pub asks : Act → Lifecycle → Bool
asks (drains buffered) l = asks_for_reset buffered l
asks _ l = false

-- how often one is asked for
abbrev pub resets_asked : List Act → Lifecycle → ℕ
resets_asked [] l = 0
resets_asked (a ∷ acts) l = cond (asks a l) 1 0 + resets_asked acts (act a l)

abbrev pub is_stop : Act → Bool
is_stop stops_incoming = true
is_stop _ = false

abbrev pub is_finish : Act → Bool
is_finish finishes = true
is_finish _ = false

-- a reset is answered
abbrev pub is_answer : Act → Bool
is_answer finishes = true
is_answer denies = true
is_answer _ = false

abbrev pub is_confirmation : Act → Bool
is_confirmation confirms = true
is_confirmation _ = false

abbrev pub has : (Act → Bool) → List Act → Bool
has is [] = false
has is (a ∷ acts) = is a || has is acts

-- ---- data: messages of the owner of one end, as they come at the other

pub record Content : Type 0 where
  pub stream : ℕ
  pub kind : PayloadKind
  pub bytes : List ℕ

-- none is longer than it may be
abbrev pub IsShort : ℕ → Content → Type 0
IsShort limit m = length m.bytes ≤ limit

abbrev pub sent_as : Content → Message
sent_as m = data_message m.stream m.kind m.bytes

abbrev pub handed_out : (stream : ℕ) → Received → List Content → List Content
handed_out stream (message kind bytes) rest = record { stream = stream; kind = kind; bytes = bytes } ∷ rest
handed_out stream _ rest = rest

abbrev pub on_message : ℕ → Option PayloadProtocol → List ℕ → Channel → Channel
on_message limit (Some protocol) payload c = on_data limit protocol payload c
on_message limit None payload c = c

abbrev pub received_from : ℕ → Option PayloadProtocol → List ℕ → Channel → Received
received_from limit (Some protocol) payload c = received limit protocol payload c
received_from limit None payload c = nothing

-- what the channel hands out, message by message
abbrev pub hands_out : ℕ → List Message → Channel → List Content
hands_out limit [] c = []
hands_out limit (m ∷ messages) c =
    handed_out m.stream (received_from limit (protocol_of m.ppid) m.payload c) (hands_out limit messages (on_message limit (protocol_of m.ppid) m.payload c))
