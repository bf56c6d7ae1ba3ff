-- Items that are missing or lost, and messages that are given up (RFC 9260 section 7.2.4, RFC 3758 section 3.5).
use Rattle.std.specs.Prelude.{ℕ, zero, suc, ◌+◌, ◌-◌, ◌%◌, ◌^◌, ◌&&◌, ◌||◌, Bool, true, false, if◌then◌else◌, Option, Some, None, unwrap_or, option_map, List, [], ◌∷◌, ◌++◌, length, map, slice_get}
use Rattle.sctp_chunk.specs.Chunk.{FragmentTree}
use Rattle.sctp_state.specs.Events.{Emitted, emit_given_up}
use Rattle.sctp_state.specs.declared.api.GivenUpCause.{GivenUpCause}
use Rattle.sctp_state.specs.declared.api.GivenUpCause.TheVariants.{Lifetime, Retransmissions}
use Rattle.sctp_tx_outstanding.specs.declared.item.MissIndication.{MissIndication}
use Rattle.sctp_tx_outstanding.specs.declared.item.MissIndication.TheVariants.{Timeout}
use Rattle.sctp_tx_outstanding.specs.declared.item.ItemState.TheVariants.{GivenUp}
use Rattle.sctp_tx_outstanding.specs.declared.outstanding_data.Loss.{Loss}
use Rattle.sctp_tx_outstanding.specs.Item.{Item, is_outstanding, is_lost, is_used_up, is_nacked, has_expired, nack}
use Rattle.sctp_tx_outstanding.specs.OutstandingData.{Items, Discard, change_at, abandon_if_of, last_of}

-- ---- a message is given up

-- the end that takes the next TSN where the message's own end was not sent. It is never sent as data
abbrev pub placeholder : ℕ → FragmentTree → Item
placeholder number f = record {
  number = number;
  fragment = record f { fsn = (f.fsn + 1) % 2 ^ 32; payload = []; is_beginning = false; is_end = true };
  expires = None;
  limit = 0;
  lifecycle = None;
  state = GivenUp;
  sent = 0;
  reports = 0;
  counts_from = 0;
  sent_at = 0;
}

-- by the last kept fragment
abbrev pub placeholders : ℕ → Option FragmentTree → List Item
placeholders number None = []
placeholders number (Some f) = if f.is_end then [] else placeholder number f ∷ []

abbrev pub discards_of : ℕ → Option FragmentTree → List Discard
discards_of number None = []
discards_of number (Some f) = if f.is_end then [] else record { stream = f.stream_id; number = number } ∷ []

-- a message whose end was not sent gets one, and the send queue is to drop the rest
abbrev pub end_with_placeholder : ℕ → Items → Items
end_with_placeholder number s = record s {
  kept = s.kept ++ placeholders number (last_of number s.kept);
  discards = s.discards ++ discards_of number (last_of number s.kept);
}

-- all that is kept of a message is given up
abbrev pub abandon_message : ℕ → Items → Items
abandon_message number s = record (end_with_placeholder number s) { kept = map (abandon_if_of number) (end_with_placeholder number s).kept }

-- ---- steps through the items

pub record Step (P : Type 0) : Type 0 where
  pub items : Items
  pub emitted : Emitted P
  pub is_lossy : Bool  -- an item was found to be lost

abbrev pub abandon_with_record : {P : Type 0} → ℕ → GivenUpCause → Step P → Step P
abandon_with_record number cause x = record { items = abandon_message number x.items; emitted = emit_given_up number cause x.emitted; is_lossy = true }

abbrev pub change_items : ℕ → (Item → Item) → Items → Items
change_items k f s = record s { kept = change_at k f s.kept }

-- the item is found to be lost
abbrev pub loses : (indication : MissIndication) → Item → Bool
loses indication i = is_outstanding i && is_lost indication i

-- and it was sent again as often as it may be
abbrev pub is_to_be_abandoned : (is_partial : Bool) (indication : MissIndication) → Item → Bool
is_to_be_abandoned is_partial indication i = loses indication i && (is_partial && is_used_up i)

-- what a missing report, or a timeout, finds of an item
abbrev pub loss_of : (is_partial : Bool) (indication : MissIndication) → Item → Loss
loss_of is_partial indication i = record { is_lost = loses indication i; gives_up = is_to_be_abandoned is_partial indication i; message_id = record { 0 = i.number }; resendings = i.sent - 1 }

-- the item at place k is missing, by a report or, at once, by a timeout: it is to be sent again, or its message given up
abbrev pub nack_item : {P : Type 0} → (indication : MissIndication) (fast : Bool) → ℕ → Item → Step P → Step P
nack_item indication fast k i x =
    if is_to_be_abandoned x.items.is_partial indication i then abandon_with_record i.number (Retransmissions (i.sent - 1)) x
    else record x { items = change_items k (nack indication fast) x.items; is_lossy = x.is_lossy || loses indication i }

abbrev pub nack_at : {P : Type 0} → (indication : MissIndication) (fast : Bool) → ℕ → Step P → Step P
nack_at indication fast k x = unwrap_or (option_map (λ i. nack_item indication fast k i x) (slice_get x.items.kept k)) x

-- the items at the places below n are missing, in ascending order
abbrev pub nack_below : {P : Type 0} → (indication : MissIndication) (fast : Bool) → ℕ → Step P → Step P
nack_below indication fast zero x = x
nack_below indication fast (suc n) x = nack_at indication fast n (nack_below indication fast n x)

abbrev pub first_step : {P : Type 0} → Items → Emitted P → Step P
first_step s emitted = record { items = s; emitted = emitted; is_lossy = false }

-- a timeout: all that is in flight or missing is lost
abbrev pub nack_all : {P : Type 0} → Items → Emitted P → Step P
nack_all s emitted = nack_below Timeout false (length s.kept) (first_step s emitted)

-- ---- lifetimes

-- of a message that was not given up, an item is missing or lost, and it isn't worth sending any more
abbrev pub expires : ℕ → Item → Bool
expires now i = is_nacked i && has_expired now i

abbrev pub option_bind : (Item → Option ℕ) → Option Item → Option ℕ
option_bind f None = None
option_bind f (Some i) = f i

-- the message of the item at place k, where it is to be given up
abbrev pub expired_of : (is_partial : Bool) → ℕ → Item → Option ℕ
expired_of is_partial now i = if is_partial && expires now i then Some i.number else None

abbrev pub expired_at : ℕ → ℕ → Items → Option ℕ
expired_at now k s = option_bind (expired_of s.is_partial now) (slice_get s.kept k)

abbrev pub given_up_if : {P : Type 0} → Option ℕ → Step P → Step P
given_up_if None x = x
given_up_if (Some number) x = abandon_with_record number Lifetime x

abbrev pub expire_at : {P : Type 0} → ℕ → ℕ → Step P → Step P
expire_at now k x = given_up_if (expired_at now k x.items) x

abbrev pub expire_below : {P : Type 0} → ℕ → ℕ → Step P → Step P
expire_below now zero x = x
expire_below now (suc n) x = expire_at now n (expire_below now n x)

abbrev pub expire_outstanding : {P : Type 0} → ℕ → Items → Emitted P → Step P
expire_outstanding now s emitted = expire_below now (length s.kept) (first_step s emitted)
