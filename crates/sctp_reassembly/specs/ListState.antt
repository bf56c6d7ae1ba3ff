-- How an interval list has its fragments.
use Rattle.std.specs.Prelude.{◌≡◌, ℕ, ◌<◌, ◌^◌, List, [], ◌∷◌, length}
use Rattle.sctp_fragments.specs.declared.interval.Entry.{Entry}
use Rattle.sctp_fragments.specs.declared.interval.Interval.{Interval}
use Rattle.sctp_fragments.specs.Held.{Held, bytes_of}
use Rattle.sctp_fragments.specs.Interval.{held_of, lists_of, entries_of, IsInRuns, AreIndexed}
use Rattle.sctp_reassembly.specs.declared.interval_list.ListState.{ListState}
use Rattle.sctp_reassembly.specs.declared.interval_list.ListState.TheVariants.{Empty, Lone, Many}

abbrev pub held_in : {K : Type 0} → (Entry K → Held) → ListState K → List Held
held_in f Empty = []
held_in f (Lone i) = entries_of f (i ∷ [])
held_in f (Many b) = b.value

-- an interval is a single fragment
pub record IsLone {K : Type 0} (number index : K → ℕ) (i : Interval K) : Type 0 where
  pub runs : IsInRuns (lists_of (held_of number index) (i ∷ []))
  pub small : AreIndexed (entries_of (held_of number index) (i ∷ []))
  pub one : length (entries_of (held_of number index) (i ∷ [])) ≡ 1
  pub room : bytes_of (entries_of (held_of number index) (i ∷ [])) < 2 ^ 64

-- there is a map only for several fragments
abbrev pub IsListState : {K : Type 0} → (number index : K → ℕ) → ListState K → Type 0
IsListState number index Empty = Unit {0}
IsListState number index (Lone i) = IsLone number index i
IsListState number index (Many b) = 1 < length b.value

-- the same, where a map may have lost fragments
abbrev pub IsLeft : {K : Type 0} → (number index : K → ℕ) → ListState K → Type 0
IsLeft number index Empty = Unit {0}
IsLeft number index (Lone i) = IsLone number index i
IsLeft number index (Many b) = Unit {0}
