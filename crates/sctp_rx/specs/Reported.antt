-- What a SACK reports, by the set of numbers alone (RFC 9260 section 3.3.4): no word here is on how a set is kept.
use Rattle.std.specs.Prelude.{◌≡◌, ℕ, zero, suc, ◌+◌, ◌-◌, ◌<◌, ◌≤◌, ◌==◌, ◌&&◌, not, nat_lt, Bool, true, false, if◌then◌else◌, List, [], ◌∷◌}
use Rattle.std.specs.List.{list_any}
use Rattle.sctp_chunk.specs.declared.sack.GapAckBlock.{GapAckBlock}
use Rattle.sctp_rx.specs.Seen.{Seen, contains}
use Rattle.sctp_rx.specs.DataTracker.{Tracker}

-- ---- blocks

-- whether the number so far above the front was seen
abbrev pub is_above : Seen → ℕ → Bool
is_above s offset = nat_lt 0 offset && contains s (s.front + offset)

-- a run of numbers above the front, by their offsets, that could be longer at neither end
pub record IsMaximalRun (s : Seen) (run : GapAckBlock) : Type 0 where
  pub full : run.start ≤ run.end
  pub inside : (offset : ℕ) → run.start ≤ offset → offset ≤ run.end → is_above s offset ≡ true
  pub before : (offset : ℕ) → offset + 1 ≡ run.start → is_above s offset ≡ false
  pub behind : is_above s (run.end + 1) ≡ false

-- whether a run begins at the offset
abbrev pub begins_run : Seen → ℕ → Bool
begins_run s offset = is_above s offset && not (is_above s (offset - 1))

-- how many runs begin below the offset
abbrev pub runs_below : Seen → ℕ → ℕ
runs_below s zero = 0
runs_below s (suc offset) = runs_below s offset + (if begins_run s offset then 1 else 0)

-- a maximal run that a SACK reports: one of the first twenty, with an end of 16 bits
pub record IsReported (s : Seen) (run : GapAckBlock) : Type 0 where
  pub maximal : IsMaximalRun s run
  pub early : runs_below s run.start < 20
  pub near : run.end ≤ 65535

-- ---- duplicates

-- whether the number came again since the last SACK
abbrev pub is_duplicate : Tracker → ℕ → Bool
is_duplicate t n = list_any (λ m. n == m) t.duplicates

-- the numbers ascend, from `least` on, so each stands once
abbrev pub Ascend : ℕ → List ℕ → Type 0
Ascend least [] = Unit {0}
Ascend least (n ∷ ns) = (least ≤ n) × Ascend (suc n) ns
