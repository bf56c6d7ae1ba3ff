-- What stays of kept items, whatever becomes of them: an item keeps its place, its fragment and its message, and what is given
-- up stays so. Items leave by a cumulative TSN alone.
use Rattle.std.specs.Prelude.{◌≡◌, ℕ, ◌||◌, not, Bool, true, List, [], ◌∷◌}
use Rattle.std.specs.List.{list_all}
use Rattle.sctp_chunk.specs.declared.sack.GapAckBlock.{GapAckBlock}
use Rattle.sctp_state.specs.Events.{Emitted}
use Rattle.sctp_tx_outstanding.specs.declared.item.MissIndication.{MissIndication}
use Rattle.sctp_tx_outstanding.specs.Item.{Item, is_of, is_abandoned}
use Rattle.sctp_tx_outstanding.specs.OutstandingData.{Items, append_item}
use Rattle.sctp_tx_outstanding.specs.Losses.{Step, abandon_message, nack_below, expire_below}
use Rattle.sctp_tx_outstanding.specs.Resending.{Resent, resent_below}
use Rattle.sctp_tx_outstanding.specs.Sack.{staying, receive_sack}

pub record Remains (i j : Item) : Type 0 where
  pub fragment : j.fragment ≡ i.fragment
  pub number : j.number ≡ i.number
  pub given_up : is_abandoned i ≡ true → is_abandoned j ≡ true

-- each of the items, at its place; there may be more behind them
abbrev pub Remain : List Item → List Item → Type 0
Remain [] js = Unit {0}
Remain (i ∷ is) [] = ⊥
Remain (i ∷ is) (j ∷ js) = Remains i j × Remain is js

-- none left
pub record Keeps (s after : Items) : Type 0 where
  pub acked : after.acked ≡ s.acked
  pub items : Remain s.kept after.kept

-- missing reports and timeouts, also where memory ran out in between
abbrev pub LossesKeep : Type 0
LossesKeep = (indication : MissIndication) (fast : Bool) (count : ℕ) (x : Step (List ℕ)) → Keeps x.items (nack_below indication fast count x).items

abbrev pub LifetimesKeep : Type 0
LifetimesKeep = (now count : ℕ) (x : Step (List ℕ)) → Keeps x.items (expire_below now count x).items

abbrev pub ResendingKeeps : Type 0
ResendingKeeps = (fast : Bool) (count : ℕ) (x : Resent) → Keeps x.outstanding.items (resent_below fast count x).outstanding.items

abbrev pub NewItemsKeep : Type 0
NewItemsKeep = (i : Item) (s : Items) → Keeps s (append_item i s)

-- a SACK lets the items up to its cumulative TSN leave, and no other
abbrev pub SacksKeep : Type 0
SacksKeep = (cumulative : ℕ) (blocks : List GapAckBlock) (once_a_flight is_in_fast_recovery : Bool) (s : Items) (emitted : Emitted (List ℕ))
    → Keeps (staying cumulative s) (receive_sack cumulative blocks once_a_flight is_in_fast_recovery s emitted).items

-- a fragment of this message is given up
abbrev pub is_given_up_in : ℕ → Item → Bool
is_given_up_in number i = not (is_of number i) || is_abandoned i

-- giving up one fragment gives up all that is kept of its message, with the end that it gets
abbrev pub MessagesAreGivenUp : Type 0
MessagesAreGivenUp = (number : ℕ) (s : Items) → list_all (is_given_up_in number) (abandon_message number s).kept ≡ true
