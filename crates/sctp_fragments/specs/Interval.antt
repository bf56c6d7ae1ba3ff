-- How an interval list keeps the fragments.
use Rattle.std.specs.Prelude.{◌≡◌, ℕ, ◌<◌, ◌≤◌, ◌^◌, not, nat_lt, Bool, true, false, None, List, [], ◌∷◌, ◌++◌, map}
use Rattle.sctp_chunk.specs.declared.data.Data.{Data}
use Rattle.sctp_chunk.specs.Views.{fragment_tree}
use Rattle.sctp_fragments.specs.declared.interval.Entry.{Entry}
use Rattle.sctp_fragments.specs.declared.interval.Interval.{Interval}
use Rattle.sctp_fragments.specs.Entries.{items_of}
use Rattle.sctp_fragments.specs.Runs.{flat, AreRuns, is_held}
use Rattle.sctp_fragments.specs.Held.{Held, rank_of, goes_on, NonePass}

abbrev pub as_held : ℕ → ℕ → Data → Held
as_held number index d = record { number = number; index = index; fragment = fragment_tree d }

abbrev pub held_of : {K : Type 0} (number index : K → ℕ) → Entry K → Held
held_of number index e = as_held (number e.key) (index e.key) e.fragment

-- the fragments of an interval
abbrev pub run_of : {K : Type 0} → (Entry K → Held) → Interval K → List Held
run_of f i = map f (items_of i.entries.value)

abbrev pub lists_of : {K : Type 0} → (Entry K → Held) → List (Interval K) → List (List Held)
lists_of f [] = []
lists_of f (i ∷ is) = run_of f i ∷ lists_of f is

abbrev pub entries_of : {K : Type 0} → (Entry K → Held) → List (Interval K) → List Held
entries_of f is = flat (lists_of f is)

abbrev pub IsInRuns : List (List Held) → Type 0
IsInRuns ls = AreRuns rank_of goes_on None ls

-- a place has 64 bits
abbrev pub AreIndexed : List Held → Type 0
AreIndexed [] = Unit {0}
AreIndexed (h ∷ hs) = (h.index < 2 ^ 64) × AreIndexed hs

-- x came between the runs ps and qs
pub record IsInserted (ps qs new : List (List Held)) (x : Held) : Type 0 where
  pub kept : AreRuns rank_of goes_on None new
  pub front : List (List Held)
  pub run : List Held
  pub back : List (List Held)
  pub runs : new ≡ front ++ run ∷ back
  pub among : is_held rank_of (rank_of x) run ≡ true
  pub together : flat new ≡ flat ps ++ x ∷ flat qs
  pub others : (test : List Held → Bool) → NonePass test (ps ++ qs) → NonePass test (front ++ back)

-- whether the first run begins at n or below it
abbrev pub starts_upto : ℕ → List (List Held) → Bool
starts_upto n [] = false
starts_upto n ([] ∷ rs) = false
starts_upto n ((e ∷ es) ∷ rs) = not (nat_lt n (rank_of e))

-- the first run begins at message n or above it
abbrev pub StartsFrom : ℕ → List (List Held) → Type 0
StartsFrom n [] = Unit {0}
StartsFrom n ([] ∷ rs) = ⊥
StartsFrom n ((e ∷ es) ∷ rs) = n ≤ e.number

-- the runs without the first entry of the first one, where es is left of it
abbrev pub without_first : List Held → List (List Held) → List (List Held)
without_first [] rs = rs
without_first (e ∷ es) rs = (e ∷ es) ∷ rs

-- whether the first run begins below n
abbrev pub first_below : ℕ → List (List Held) → Bool
first_below n [] = false
first_below n ([] ∷ rs) = false
first_below n ((e ∷ es) ∷ rs) = nat_lt (rank_of e) n
