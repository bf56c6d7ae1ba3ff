-- What the private steps on the runs of a set do.
use Rattle.std.specs.Prelude.{◌≡◌, ℕ, suc, ◌+◌, ◌^◌, ◌==◌, ◌<◌, ◌≤◌, ◌||◌, nat_le, max, Bool, false, not, if◌then◌else◌, Option, Some, None, List, [], ◌∷◌, map, unwrap_or}
use Rattle.std.specs.Map.{lookup}
use Rattle.std.specs.Ordering.{nat_cmp}
use Rattle.std.specs.BTreeMap.{is_at}
use Rattle.std.specs.BTreeMap.Range.{entries_between}
use Rattle.std.specs.declared.ops.Bound.TheVariants.{Unbounded, Included}
use Rattle.sctp_rx.specs.Seen.{Run, Seen, in_runs, AreRuns, IsInRuns, last_above, highest}

-- the runs with the number n, and whether it is new
pub record Adds (n : ℕ) (old : List Run) (is_new : Bool) (new : List Run) : Type 0 where
  pub answer : is_new ≡ not (in_runs old n)
  pub numbers : (m : ℕ) → in_runs new m ≡ (m == n || in_runs old m)
  pub runs : (below : ℕ) → AreRuns below old → below + 1 < n → AreRuns below new
  pub last : (below : ℕ) → AreRuns below old → below < n → last_above below new ≡ max n (last_above below old)

-- a front moved from p to q over the runs that it reaches
pub record Passes (p : ℕ) (old : List Run) (q : ℕ) (new : List Run) : Type 0 where
  pub numbers : (m : ℕ) → (nat_le m q || in_runs new m) ≡ (nat_le m p || in_runs old m)
  pub runs : AreRuns q new
  pub onward : p ≤ q
  pub last : max q (last_above 0 new) ≡ max p (last_above 0 old)

-- a front moves from p to q by runs that went out, and may reach others
pub record Cuts (p : ℕ) (old : List Run) (q : ℕ) (new : List Run) : Type 0 where
  pub numbers : (m : ℕ) → (nat_le m q || in_runs new m) ≡ (nat_le m p || in_runs old m)
  pub runs : AreRuns 0 new
  pub onward : p ≤ q
  pub last : max q (last_above 0 new) ≡ max p (last_above 0 old)

-- ---- the map of the runs, from the first number of each to its last

abbrev pub run_of : ℕ × ℕ → Run
run_of e = record { first = e.0; last = e.1 }

abbrev pub runs_of : List (ℕ × ℕ) → List Run
runs_of es = map run_of es

-- an entry as an iterator gives it, copied
abbrev pub read : ℕ × ℕ → ℕ × ℕ
read e = (e.0, e.1)

abbrev pub last_entry : List (ℕ × ℕ) → Option (ℕ × ℕ)
last_entry [] = None
last_entry (e ∷ []) = Some e
last_entry (e ∷ f ∷ es) = last_entry (f ∷ es)

-- the last run that begins at n or before it
abbrev pub run_at : ℕ → List (ℕ × ℕ) → Option (ℕ × ℕ)
run_at n es = last_entry (entries_between nat_cmp Unbounded (Included n) es)

-- whether n is in that run
abbrev pub is_held : ℕ → Option (ℕ × ℕ) → Bool
is_held n None = false
is_held n (Some e) = nat_le n e.1

-- where the run of n begins: at that run, if it ends right before n
abbrev pub first_with : ℕ → Option (ℕ × ℕ) → ℕ
first_with n None = n
first_with n (Some e) = if n == suc e.1 then e.0 else n

-- where it ends: with a run that begins right behind n
abbrev pub last_with : ℕ → List (ℕ × ℕ) → ℕ
last_with n es = unwrap_or (lookup (is_at (nat_cmp (n + 1))) es) n

-- what is true of every set
pub record IsSeen (s : Seen) : Type 0 where
  pub runs : IsInRuns s
  pub some : 0 < s.front
  pub small : highest s < 2 ^ 63
