-- The offsets that gap ack blocks cover, and blocks that are the maximal runs of these (RFC 9260 section 3.3.4).
use Rattle.std.specs.Prelude.{◌≡◌, ℕ, ◌+◌, ◌<◌, ◌≤◌, Bool, true, false, ◌&&◌, List, [], ◌∷◌, nat_le, All}
use Rattle.std.specs.List.{list_any, AllPairs}
use Rattle.sctp_chunk.specs.declared.sack.GapAckBlock.{GapAckBlock}

-- from start to end, both included: with start above end there is no such offset
abbrev pub covers : ℕ → GapAckBlock → Bool
covers offset block = nat_le block.start offset && nat_le offset block.end

-- whether one of the blocks covers the offset
abbrev pub is_covered : List GapAckBlock → ℕ → Bool
is_covered blocks offset = list_any (covers offset) blocks

-- both cover the same offsets
abbrev pub SameOffsets : List GapAckBlock → List GapAckBlock → Type 0
SameOffsets blocks others = (offset : ℕ) → is_covered blocks offset ≡ is_covered others offset

-- a run of covered offsets that could be longer at neither end
pub record IsMaximalRun (blocks : List GapAckBlock) (run : GapAckBlock) : Type 0 where
  pub full : run.start ≤ run.end
  pub inside : (offset : ℕ) → run.start ≤ offset → offset ≤ run.end → is_covered blocks offset ≡ true
  pub before : (offset : ℕ) → offset + 1 ≡ run.start → is_covered blocks offset ≡ false
  pub behind : is_covered blocks (run.end + 1) ≡ false

-- The blocks ascend from `lowest` on, none is empty, and between two an offset is missing: so each is a maximal run of
-- what they cover.
abbrev pub AreRuns : ℕ → List GapAckBlock → Type 0
AreRuns lowest [] = Unit {0}
AreRuns lowest (block ∷ blocks) = (lowest ≤ block.start) × (block.start ≤ block.end) × AreRuns (block.end + 2) blocks

-- the blocks ascend by their starts, from `lowest` on, and none is empty
abbrev pub Ascend : ℕ → List GapAckBlock → Type 0
Ascend lowest [] = Unit {0}
Ascend lowest (block ∷ blocks) = (lowest ≤ block.start) × (block.start ≤ block.end) × Ascend block.start blocks

-- The blocks are the maximal runs of the offsets that they cover, each once and in their order, and none of these offsets is
-- below 2.
pub record AreValid (blocks : List GapAckBlock) : Type 0 where
  pub runs : All (IsMaximalRun blocks) blocks
  pub ascending : AllPairs (λ block later. block.start < later.start) blocks
  pub from_two : (offset : ℕ) → offset < 2 → is_covered blocks offset ≡ false
