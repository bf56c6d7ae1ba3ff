-- Blocks are runs from offset 2 on exactly where they are valid.
use Rattle.std.proofs.Common.{ℕ, zero, suc, ◌+◌, ◌-◌, ◌<◌, ◌≤◌, List, [], ◌∷◌, length, get_or, refl, inl, inr, arith}
use Rattle.std.specs.List.{All, AllPairs}
use Rattle.std.proofs.lemmas.Bool.{cases_lt, both_ways}
use Rattle.std.proofs.lemmas.List.Elements.{All-head, All-tail}
use Rattle.sctp_chunk.specs.declared.sack.GapAckBlock.{GapAckBlock}
use Rattle.sctp_chunk.specs.Covered.{AreRuns, AreValid, IsMaximalRun}
use Rattle.sctp_chunk_validators.proofs.CoveredOnceLemmas.{runs_are_maximal}
use Rattle.sctp_chunk.proofs.SackLemmas.{is_covered_below}

abbrev StartsBelow : GapAckBlock → GapAckBlock → Type 0
StartsBelow block later = block.start < later.start

-- runs start where the first may, or later
starts_from : (low k : ℕ) (d : GapAckBlock) (bs : List GapAckBlock) → AreRuns low bs → k < length bs → low ≤ (get_or bs k d).start
starts_from low k d [] r h = absurd (omega (arith, h))
starts_from low zero d (b ∷ bs) r h = r.0
starts_from low (suc k) d (b ∷ bs) r h = omega (arith, r.0, r.1, starts_from (b.end + 2) k d bs r.2 (omega (arith, h)))

runs_ascend : (low : ℕ) (bs : List GapAckBlock) → AreRuns low bs → AllPairs StartsBelow bs
runs_ascend low [] r i j d before h = absurd (omega (arith, h))
runs_ascend low (b ∷ bs) r i zero d before h = absurd (omega (arith, before))
runs_ascend low (b ∷ bs) r zero (suc j) d before h = omega (arith, r.1, starts_from (b.end + 2) j d bs r.2 (omega (arith, h)))
runs_ascend low (b ∷ bs) r (suc i) (suc j) d before h = runs_ascend (b.end + 2) bs r.2 i j d (omega (arith, before)) (omega (arith, h))

pub valid_from_runs : (bs : List GapAckBlock) → AreRuns 2 bs → AreRuns 0 bs → AreValid bs
valid_from_runs bs r z = record {
  runs = runs_are_maximal bs bs z (λ n. refl);
  ascending = runs_ascend 2 bs r;
  from_two = λ n h. is_covered_below 2 n bs r h;
}

-- ---- valid blocks are runs

-- Between two maximal runs an offset is missing.
run_apart : (whole : List GapAckBlock) (b c : GapAckBlock) → IsMaximalRun whole b → IsMaximalRun whole c → b.start < c.start → b.end + 2 ≤ c.start
run_apart whole b c mine other up =
    elim (cases_lt (b.end + 1) c.start) [
      | inl apart ↦ omega (arith, apart)
      | inr near ↦ absurd (both_ways _ (other.before (c.start - 1) (omega (arith, up))) (mine.inside (c.start - 1) (omega (arith, up)) (omega (arith, near, up))))
    ]

runs_from : (whole : List GapAckBlock) (low : ℕ) (bs : List GapAckBlock) → ((d : GapAckBlock) → 0 < length bs → low ≤ (get_or bs 0 d).start)
    → All (IsMaximalRun whole) bs → AllPairs StartsBelow bs → AreRuns low bs
runs_from whole low [] first runs up = tt
runs_from whole low (b ∷ []) first runs up = (first b (omega arith), (All-head (IsMaximalRun whole) b [] runs).full, tt)
runs_from whole low (b ∷ c ∷ bs) first runs up =
    let mine = All-head (IsMaximalRun whole) b (c ∷ bs) runs in
    let others = All-tail (IsMaximalRun whole) b (c ∷ bs) runs in
    let apart = run_apart whole b c mine (All-head (IsMaximalRun whole) c bs others) (up 0 1 b (omega arith) (omega arith)) in (
      first b (omega arith),
      mine.full,
      runs_from whole (b.end + 2) (c ∷ bs) (λ d h. apart) others (λ i j d before h. up (suc i) (suc j) d (omega (arith, before)) (omega (arith, h))),
    )

from_two : (bs : List GapAckBlock) → AreValid bs → (d : GapAckBlock) → 0 < length bs → 2 ≤ (get_or bs 0 d).start
from_two [] v d h = absurd (omega (arith, h))
from_two (b ∷ bs) v d h =
    let mine = All-head (IsMaximalRun (b ∷ bs)) b bs v.runs in
    elim (cases_lt b.start 2) [
      | inl below ↦ absurd (both_ways _ (v.from_two b.start below) (mine.inside b.start (omega arith) mine.full))
      | inr above ↦ above
    ]

pub runs_from_valid : (bs : List GapAckBlock) → AreValid bs → AreRuns 2 bs
runs_from_valid bs v = runs_from bs 2 bs (from_two bs v) v.runs v.ascending
