-- What the last SACK's blocks said, so that the next one's are looked at only where they say something else.
use Rattle.std.specs.Prelude.{◌≡◌, ℕ, zero, suc, ◌+◌, ◌<◌, ◌^◌, Bool, true, List, [], ◌∷◌, length}
use Rattle.sctp_chunk.specs.declared.sack.GapAckBlock.{GapAckBlock}
use Rattle.sctp_chunk.specs.Covered.{is_covered, AreRuns}
use Rattle.sctp_tx_outstanding.specs.declared.last_blocks.LastBlocks.{LastBlocks}
use Rattle.sctp_tx_outstanding.specs.Item.{Item}
use Rattle.sctp_tx_outstanding.specs.Sack.{ack_or_uncover, highest_end}

-- ---- items that blocks change nothing of

abbrev pub Rests : (covered : Bool) → Item → Type 0
Rests covered i = ack_or_uncover covered i ≡ i

-- all, from this offset on
abbrev pub Rest : List GapAckBlock → (offset : ℕ) → List Item → Type 0
Rest blocks offset [] = Unit {0}
Rest blocks offset (i ∷ is) = Rests (is_covered blocks offset) i × Rest blocks (suc offset) is

-- the first k
abbrev pub RestBelow : List GapAckBlock → (k offset : ℕ) → List Item → Type 0
RestBelow blocks zero offset is = Unit {0}
RestBelow blocks (suc k) offset [] = Unit {0}
RestBelow blocks (suc k) offset (i ∷ is) = Rests (is_covered blocks offset) i × RestBelow blocks k (suc offset) is

-- ---- what is remembered

-- the items are as the blocks said, of which none reaches above the last item
pub record AreAsBlocksSaid (h : LastBlocks) (is : List Item) : Type 0 where
  pub order : AreRuns 0 h.gap_ack_blocks.items
  pub small : h.offset < 2 ^ 63
  pub within : highest_end h.gap_ack_blocks.items < h.offset + length is
  pub rest : Rest h.gap_ack_blocks.items h.offset is

abbrev pub Knows : LastBlocks → List Item → Type 0
Knows h is = h.is_known ≡ true → AreAsBlocksSaid h is
