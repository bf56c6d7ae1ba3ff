-- Which numbers were seen: a set that has every number up to a front (RFC 9260 section 6.2; RFC 3758 section 3.6).
use Rattle.std.specs.Prelude.{ℕ, suc, ◌+◌, ◌==◌, ◌<◌, ◌≤◌, ◌||◌, ◌&&◌, nat_lt, nat_le, max, Bool, true, false, if◌then◌else◌, List, [], ◌∷◌}
use Rattle.std.specs.List.{list_any}

-- neighbouring numbers, from the first to the last
pub record Run : Type 0 where
  pub first : ℕ
  pub last : ℕ

abbrev pub is_in : ℕ → Run → Bool
is_in n r = nat_le r.first n && nat_le n r.last

abbrev pub in_runs : List Run → ℕ → Bool
in_runs rs n = list_any (is_in n) rs

-- each number up to the front, and those in the runs
pub record Seen : Type 0 where
  pub front : ℕ
  pub runs : List Run

abbrev pub contains : Seen → ℕ → Bool
contains s n = nat_le n s.front || in_runs s.runs n

-- ---- the form of a set, of which there is one

-- the runs are maximal: none is empty, and between two of them, and between `below` and the first, a number is missing
abbrev pub AreRuns : ℕ → List Run → Type 0
AreRuns below [] = Unit {0}
AreRuns below (r ∷ rs) = (below + 1 < r.first) × (r.first ≤ r.last) × AreRuns r.last rs

-- the front is the end of the unbroken beginning, and the runs are the maximal runs above it
abbrev pub IsInRuns : Seen → Type 0
IsInRuns s = AreRuns s.front s.runs

abbrev pub is_gap : List Run → Bool
is_gap [] = false
is_gap (r ∷ rs) = true

-- whether a number is missing below the greatest one
abbrev pub has_gap : Seen → Bool
has_gap s = is_gap s.runs

-- the end of the last run, or `below`
abbrev pub last_above : ℕ → List Run → ℕ
last_above below [] = below
last_above below (r ∷ rs) = last_above r.last rs

-- the greatest number
abbrev pub highest : Seen → ℕ
highest s = last_above s.front s.runs

-- ---- computed. What the results are, `contains` and `IsInRuns` say

-- a run in front of the others, one with the next where they touch
abbrev pub join_run : Run → List Run → List Run
join_run r [] = r ∷ []
join_run r (q ∷ qs) = if q.first == suc r.last then record { first = r.first; last = q.last } ∷ qs else r ∷ q ∷ qs

-- runs with a number that is in none of them
abbrev pub with_number : ℕ → List Run → List Run
with_number n [] = record { first = n; last = n } ∷ []
with_number n (r ∷ rs) =
    if nat_lt n r.first then join_run (record { first = n; last = n }) (r ∷ rs) else
    (if n == suc r.last then join_run (record { first = r.first; last = n }) rs else r ∷ with_number n rs)

-- a front that takes in what it touches
abbrev pub absorb_runs : ℕ → List Run → Seen
absorb_runs front [] = record { front = front; runs = [] }
absorb_runs front (r ∷ rs) =
    if nat_le r.first (suc front) then absorb_runs (max front r.last) rs else record { front = front; runs = r ∷ rs }

-- the set with one number more
abbrev pub add : ℕ → Seen → Seen
add n s = absorb_runs s.front (if contains s n then s.runs else with_number n s.runs)

-- the set with each number up to n
abbrev pub up_to : ℕ → Seen → Seen
up_to n s = absorb_runs (max n s.front) s.runs
