-- Records of messages that are given up. In one association a message has one at most, and an item is given up exactly where
-- its message has one.
use Rattle.std.specs.Prelude.{◌≡◌, ◌≤◌, ℕ, ◌-◌, ◌==◌, ◌&&◌, ◌||◌, not, Bool, true, false, Some, List, [], ◌∷◌, ◌++◌, slice_get}
use Rattle.std.specs.List.{AllByRecursion}
use Rattle.sctp_chunk.specs.declared.sack.GapAckBlock.{GapAckBlock}
use Rattle.sctp_state.specs.Events.{GivenUp, Emitted, emit_given_up}
use Rattle.sctp_state.specs.declared.api.GivenUpCause.TheVariants.{Lifetime, Retransmissions}
use Rattle.sctp_tx_outstanding.specs.declared.item.MissIndication.{MissIndication}
use Rattle.sctp_tx_outstanding.specs.Item.{Item, is_abandoned, has_expired}
use Rattle.sctp_tx_outstanding.specs.OutstandingData.{Items, no_items, append_item}
use Rattle.sctp_tx_outstanding.specs.Losses.{Step, is_to_be_abandoned, expires, nack_at, nack_below, expire_at, expire_below}
use Rattle.sctp_tx_outstanding.specs.Resending.{Resent, resent_below}
use Rattle.sctp_tx_outstanding.specs.Sack.{receive_sack}

-- one of the records is of this message
abbrev pub is_recorded : (number : ℕ) → List GivenUp → Bool
is_recorded number [] = false
is_recorded number (g ∷ gs) = (g.number == number) || is_recorded number gs

-- no two are of the same message
abbrev pub are_distinct : List GivenUp → Bool
are_distinct [] = true
are_distinct (g ∷ gs) = not (is_recorded g.number gs) && are_distinct gs

-- the item is given up exactly where its message has a record
abbrev pub IsGivenUpAsRecorded : List GivenUp → Item → Type 0
IsGivenUpAsRecorded gs i = is_abandoned i ≡ is_recorded i.number gs

-- of all records of an association, those that were taken and those that were not
pub record RecordedOnce (taken : List GivenUp) (s : Items) (records : List GivenUp) : Type 0 where
  pub once : are_distinct (taken ++ records) ≡ true
  pub exact : AllByRecursion (IsGivenUpAsRecorded (taken ++ records)) s.kept

-- ---- from a new association on each call keeps it

abbrev pub NewRecordsAreExact : Type 0
NewRecordsAreExact = (is_partial is_interleaved : Bool) → RecordedOnce [] (no_items is_partial is_interleaved) []

-- a fragment of a message that was not given up takes the next TSN
abbrev pub NewItemsRecordOnce : Type 0
NewItemsRecordOnce = (taken records : List GivenUp) (i : Item) (s : Items) → is_abandoned i ≡ false → is_recorded i.number (taken ++ records) ≡ false → RecordedOnce taken s records → RecordedOnce taken (append_item i s) records

-- missing reports and timeouts, also where memory ran out in between
abbrev pub LossesRecordOnce : Type 0
LossesRecordOnce = (taken : List GivenUp) (indication : MissIndication) (fast : Bool) (count : ℕ) (x : Step (List ℕ)) → RecordedOnce taken x.items x.emitted.given_up → RecordedOnce taken (nack_below indication fast count x).items (nack_below indication fast count x).emitted.given_up

abbrev pub LifetimesRecordOnce : Type 0
LifetimesRecordOnce = (taken : List GivenUp) (now count : ℕ) (x : Step (List ℕ)) → RecordedOnce taken x.items x.emitted.given_up → RecordedOnce taken (expire_below now count x).items (expire_below now count x).emitted.given_up

abbrev pub SacksRecordOnce : Type 0
SacksRecordOnce =
    (taken : List GivenUp) (cumulative : ℕ) (blocks : List GapAckBlock) (once_a_flight is_in_fast_recovery : Bool) (s : Items) (emitted : Emitted (List ℕ)) → RecordedOnce taken s emitted.given_up
    → RecordedOnce taken (receive_sack cumulative blocks once_a_flight is_in_fast_recovery s emitted).items (receive_sack cumulative blocks once_a_flight is_in_fast_recovery s emitted).emitted.given_up

abbrev pub ResendingRecordsOnce : Type 0
ResendingRecordsOnce = (taken records : List GivenUp) (fast : Bool) (count : ℕ) (x : Resent) → RecordedOnce taken x.outstanding.items records → RecordedOnce taken (resent_below fast count x).outstanding.items records

abbrev pub TakingRecordsOnce : Type 0
TakingRecordsOnce = (taken records : List GivenUp) (g : GivenUp) (s : Items) → RecordedOnce taken s (g ∷ records) → RecordedOnce (taken ++ g ∷ []) s records

-- ---- where a record is made, and what it says

-- of the item at a place, which is lost: its count is how often the item was sent again, and no less than its limit
pub record RecordsRetransmissions (indication : MissIndication) (fast : Bool) (k : ℕ) (i : Item) (x : Step (List ℕ)) : Type 0 where
  pub made : is_to_be_abandoned x.items.is_partial indication i ≡ true → (nack_at indication fast k x).emitted ≡ emit_given_up i.number (Retransmissions (i.sent - 1)) x.emitted
  pub used_up : is_to_be_abandoned x.items.is_partial indication i ≡ true → i.limit ≤ i.sent - 1
  pub else : is_to_be_abandoned x.items.is_partial indication i ≡ false → (nack_at indication fast k x).emitted ≡ x.emitted

abbrev pub CountsAreRecorded : Type 0
CountsAreRecorded = (indication : MissIndication) (fast : Bool) (k : ℕ) (i : Item) (x : Step (List ℕ)) → slice_get x.items.kept k ≡ Some i → RecordsRetransmissions indication fast k i x

-- of one that is missing or lost, once its message expired
pub record RecordsLifetime (now k : ℕ) (i : Item) (x : Step (List ℕ)) : Type 0 where
  pub made : (x.items.is_partial && expires now i) ≡ true → (expire_at now k x).emitted ≡ emit_given_up i.number Lifetime x.emitted
  pub passed : (x.items.is_partial && expires now i) ≡ true → has_expired now i ≡ true
  pub else : (x.items.is_partial && expires now i) ≡ false → (expire_at now k x).emitted ≡ x.emitted

abbrev pub LifetimesAreRecorded : Type 0
LifetimesAreRecorded = (now k : ℕ) (i : Item) (x : Step (List ℕ)) → slice_get x.items.kept k ≡ Some i → RecordsLifetime now k i x
