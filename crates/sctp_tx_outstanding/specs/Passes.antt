-- How far a walk through items and blocks has come. Each says that what is done and what is left give the whole.
use Rattle.std.specs.Prelude.{◌≡◌, ℕ, zero, suc, ◌+◌, ◌-◌, ◌^◌, ◌<◌, ◌≤◌, min, Bool, true, false, List, [], ◌∷◌, drop, length}
use Rattle.sctp_chunk.specs.declared.sack.GapAckBlock.{GapAckBlock}
use Rattle.sctp_chunk.specs.Covered.{is_covered, AreRuns}
use Rattle.sctp_tx_outstanding.specs.declared.sack.Covered.{Covered}
use Rattle.sctp_tx_outstanding.specs.Item.{Item}
use Rattle.sctp_tx_outstanding.specs.Sack.{ack_or_uncover_all, newly_acked, below_highest}

-- the blocks before `from` end before the offset, so that the others say what is covered from there on
pub record IsCursor (blocks : List GapAckBlock) (offset from : ℕ) : Type 0 where
  pub within : from ≤ length blocks
  pub same : (o : ℕ) → offset ≤ o → is_covered (drop from blocks) o ≡ is_covered blocks o
  pub lowest : ℕ
  pub order : AreRuns lowest (drop from blocks)

-- blocks that aren't in order are searched whole
abbrev pub IsWalk : (are_in_order : Bool) → List GapAckBlock → (offset from : ℕ) → Type 0
IsWalk true blocks offset from = IsCursor blocks offset from
IsWalk false blocks offset from = Unit {0}

-- of the items from one place up to another, the first of all at the offset `first`, blocks cover each or none
abbrev pub AllAre : (covered : Bool) → List GapAckBlock → (first place next : ℕ) → Type 0
AllAre covered blocks first place next = (p : ℕ) → place ≤ p → p < next → is_covered blocks (p + first) ≡ covered

-- the first k items are settled, and the rest is to be
abbrev pub ack_or_uncover_from : List GapAckBlock → (k offset : ℕ) → List Item → List Item
ack_or_uncover_from blocks zero offset is = ack_or_uncover_all blocks offset is
ack_or_uncover_from blocks (suc k) offset [] = []
ack_or_uncover_from blocks (suc k) offset (i ∷ is) = i ∷ ack_or_uncover_from blocks k offset is

abbrev pub acked_from : List GapAckBlock → Bool → (k offset : ℕ) → List Item → ℕ
acked_from blocks m zero offset is = newly_acked blocks m offset is
acked_from blocks m (suc k) offset [] = 0
acked_from blocks m (suc k) offset (i ∷ is) = acked_from blocks m k offset is

abbrev pub below_from : List GapAckBlock → (k offset place most : ℕ) → List Item → ℕ
below_from blocks zero offset place most is = below_highest blocks offset place most is
below_from blocks (suc k) offset place most [] = most
below_from blocks (suc k) offset place most (i ∷ is) = below_from blocks k offset place most is

-- a walk that goes on from one place to another: what it has found then, and what is left, give what they gave before
pub record Advances (blocks : List GapAckBlock) (is_interleaved : Bool) (from to : ℕ) (before after : Covered) (is js : List Item) : Type 0 where
  pub length : length js ≡ length is
  pub behind : drop to js ≡ drop to is
  pub items : ack_or_uncover_from blocks to (to + 1) js ≡ ack_or_uncover_from blocks from (from + 1) is
  pub fits : after.bytes < 2 ^ 64
  pub bytes : min (after.bytes + acked_from blocks is_interleaved to (to + 1) js) (2 ^ 64 - 1) ≡ min (before.bytes + acked_from blocks is_interleaved from (from + 1) is) (2 ^ 64 - 1)
  pub below : below_from blocks to (to + 1) to after.below js ≡ below_from blocks from (from + 1) from before.below is
