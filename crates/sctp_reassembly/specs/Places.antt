-- The intervals of a list: the first one, and the later ones in a map.
use Rattle.std.specs.Prelude.{◌≡◌, ℕ, ◌<◌, ◌≤◌, not, nat_lt, Bool, true, false, if◌then◌else◌, Option, Some, None, List, [], ◌∷◌, ◌++◌}
use Rattle.std.specs.Option.{option_to_list}
use Rattle.std.specs.Map.{values_of}
use Rattle.sctp_fragments.specs.declared.interval.Interval.{Interval}
use Rattle.sctp_fragments.specs.ReassemblyKey.{rank_at}
use Rattle.sctp_fragments.specs.Runs.{flat, is_held, last_of, end_of, joins_left, joins_right, IsBelow, LeadsTo}
use Rattle.sctp_fragments.specs.Held.{Held, rank_of, goes_on, bytes_of}
use Rattle.sctp_fragments.specs.declared.interval.entries.Entries.{Entries}
use Rattle.sctp_fragments.specs.Interval.{held_of, run_of, lists_of, entries_of, IsInRuns, IsInserted, AreIndexed}

-- the intervals in order
abbrev pub all_of : {K : Type 0} → Option (Interval K) → List (K × Interval K) → List (Interval K)
all_of first later = option_to_list first ++ values_of later

-- n lies between the ends of a run
abbrev pub IsWithin : ℕ → List Held → Type 0
IsWithin n [] = ⊥
IsWithin n (h ∷ hs) = (rank_of h ≤ n) × (n ≤ rank_of (last_of h hs))

-- each interval is under a key between its ends
abbrev pub AreNamed : {K : Type 0} → (K → Type 0) → (K → ℕ) → (K → ℕ) → List (K × Interval K) → Type 0
AreNamed is_key number index [] = Unit {0}
AreNamed is_key number index (e ∷ es) =
    is_key e.0 × (IsWithin (rank_at number index e.0) (run_of (held_of number index) e.1) × AreNamed is_key number index es)

-- there are later ones only where there is a first one
abbrev pub IsLed : {K : Type 0} → Option (Interval K) → List (K × Interval K) → Type 0
IsLed None later = later ≡ []
IsLed (Some i) later = Unit {0}

pub record IsKept {K : Type 0} (is_key : K → Type 0) (number index : K → ℕ) (first : Option (Interval K)) (later : List (K × Interval K)) (bytes : ℕ) : Type 0 where
  pub runs : IsInRuns (lists_of (held_of number index) (all_of first later))
  pub named : AreNamed is_key number index later
  pub led : IsLed first later
  pub counted : bytes ≡ bytes_of (entries_of (held_of number index) (all_of first later))
  pub small : AreIndexed (entries_of (held_of number index) (all_of first later))

-- the keys of entries, each below n, and each from n on
abbrev pub AreLow : {K X : Type 0} → (K → Type 0) → (K → ℕ) → ℕ → List (K × X) → Type 0
AreLow is_key rank n [] = Unit {0}
AreLow is_key rank n (e ∷ es) = is_key e.0 × ((rank e.0 < n) × AreLow is_key rank n es)

abbrev pub AreHigh : {K X : Type 0} → (K → Type 0) → (K → ℕ) → ℕ → List (K × X) → Type 0
AreHigh is_key rank n [] = Unit {0}
AreHigh is_key rank n (e ∷ es) = is_key e.0 × ((n ≤ rank e.0) × AreHigh is_key rank n es)

-- the last key, and the first one
abbrev pub last_key : {K X : Type 0} → List (K × X) → Option K
last_key [] = None
last_key (e ∷ []) = Some e.0
last_key (e ∷ (d ∷ es)) = last_key (d ∷ es)

abbrev pub first_key_of : {K X : Type 0} → List (K × X) → Option K
first_key_of [] = None
first_key_of (e ∷ es) = Some e.0

-- entries in two parts, below n and from n on
pub record IsSplit {K X : Type 0} (is_key : K → Type 0) (rank : K → ℕ) (n : ℕ) (es ps qs : List (K × X)) : Type 0 where
  pub is : es ≡ ps ++ qs
  pub low : AreLow is_key rank n ps
  pub high : AreHigh is_key rank n qs

-- the runs of entries
abbrev pub runs_at : {K : Type 0} → (K → ℕ) → (K → ℕ) → List (K × Interval K) → List (List Held)
runs_at number index es = lists_of (held_of number index) (values_of es)

-- whether an item has a rank from n on
abbrev pub is_from : ℕ → Option Held → Bool
is_from n None = false
is_from n (Some h) = not (nat_lt (rank_of h) n)

-- whether the last of the runs ends at n or behind it
abbrev pub ends_from : ℕ → List (List Held) → Bool
ends_from n rs = is_from n (end_of None rs)

-- a run lies under the key, between the others
pub record IsChanged {K : Type 0} (number index : K → ℕ) (ps qs : List (K × Interval K)) (key : K) (run : List Held) (new : List (K × Interval K)) : Type 0 where
  pub interval : Interval K
  pub is : new ≡ ps ++ (key, interval) ∷ qs
  pub run_is : run_of (held_of number index) interval ≡ run

-- the same, and its entries have room
pub record HasRoom {K : Type 0} (number index : K → ℕ) (ps qs : List (K × Interval K)) (key : K) (run : List Held) (Fits : Entries K → Type 0) (new : List (K × Interval K)) : Type 0 where
  pub interval : Interval K
  pub is : new ≡ ps ++ (key, interval) ∷ qs
  pub run_is : run_of (held_of number index) interval ≡ run
  pub room : Fits interval.entries.value

-- two keys of entries one after the other
pub record AreBeside {K X : Type 0} (is_key : K → Type 0) (rank : K → ℕ) (first second : K) (es : List (K × X)) : Type 0 where
  pub front : List (K × X)
  pub here : X
  pub there : X
  pub back : List (K × X)
  pub is : es ≡ front ++ (first, here) ∷ ((second, there) ∷ back)
  pub low : AreLow is_key rank (rank first) front
  pub ascend : rank first < rank second

-- nothing came
pub record IsSame {K : Type 0} (is_key : K → Type 0) (number index : K → ℕ) (old new : List (K × Interval K)) : Type 0 where
  pub runs : runs_at number index new ≡ runs_at number index old
  pub named : AreNamed is_key number index new

-- the key of the interval to which x goes on
abbrev pub next_of : {K : Type 0} → (K → ℕ) → (K → ℕ) → Held → List (K × Interval K) → Option K
next_of number index x qs = if joins_right rank_of goes_on x (runs_at number index qs) then first_key_of qs else None

-- the key of the interval from which x goes on
abbrev pub previous_of : {K : Type 0} → (K → ℕ) → (K → ℕ) → Held → List (K × Interval K) → Option K
previous_of number index x ps = if joins_left rank_of goes_on (end_of None (runs_at number index ps)) x then last_key ps else None

-- x comes between entries, and joins the intervals under two keys, as far as these are named
pub record AreJoined {K : Type 0} (is_key : K → Type 0) (number index : K → ℕ) (es : List (K × Interval K)) (x : Held) (before behind : Option K) : Type 0 where
  pub ps : List (K × Interval K)
  pub qs : List (K × Interval K)
  pub split : IsSplit is_key (rank_at number index) (rank_of x) es ps qs
  pub below : IsBelow rank_of (rank_of x) (end_of None (runs_at number index ps))
  pub leads : LeadsTo rank_of (rank_of x) (runs_at number index qs)
  pub before_is : before ≡ previous_of number index x ps
  pub behind_is : behind ≡ next_of number index x qs

-- x came between runs, the later ones of which are those of entries
pub record IsAdded {K : Type 0} (is_key : K → Type 0) (number index : K → ℕ) (old new : List (List Held)) (x : Held) (later : List (K × Interval K)) : Type 0 where
  pub ps : List (List Held)
  pub qs : List (List Held)
  pub is : old ≡ ps ++ qs
  pub below : IsBelow rank_of (rank_of x) (end_of None ps)
  pub leads : LeadsTo rank_of (rank_of x) qs
  pub inserted : IsInserted ps qs new x
  pub named : AreNamed is_key number index later

-- x came where it is new, else nothing
abbrev pub IsAnswer : {K : Type 0} → (K → Type 0) → (K → ℕ) → (K → ℕ) → List (List Held) → List (List Held) → Held → List (K × Interval K) → Bool → Type 0
IsAnswer is_key number index old new x later true = IsAdded is_key number index old new x later
IsAnswer is_key number index old new x later false =
    (is_held rank_of (rank_of x) (flat old) ≡ true) × ((new ≡ old) × AreNamed is_key number index later)

-- the interval under the key has an entry of the rank
pub record Holds {K : Type 0} (is_key : K → Type 0) (number index : K → ℕ) (n : ℕ) (key : K) (es : List (K × Interval K)) : Type 0 where
  pub front : List (K × Interval K)
  pub interval : Interval K
  pub back : List (K × Interval K)
  pub is : es ≡ front ++ (key, interval) ∷ back
  pub low : AreLow is_key (rank_at number index) (rank_at number index key) front
  pub held : is_held rank_of n (run_of (held_of number index) interval) ≡ true

-- a run, with an item of the rank, is among others
pub record IsAmong (n : ℕ) (run : List Held) (rs : List (List Held)) : Type 0 where
  pub front : List (List Held)
  pub back : List (List Held)
  pub is : rs ≡ front ++ run ∷ back
  pub held : is_held rank_of n run ≡ true

-- a run went out
pub record IsOut (old : List (List Held)) (run : List Held) (new : List (List Held)) : Type 0 where
  pub front : List (List Held)
  pub back : List (List Held)
  pub is : old ≡ front ++ run ∷ back
  pub left : new ≡ front ++ back

-- two intervals are one, under the key of either
pub record IsJoined {K : Type 0} (is_key : K → Type 0) (number index : K → ℕ) (ps qs : List (K × Interval K)) (first second : K) (run : List Held) (new : List (K × Interval K)) : Type 0 where
  pub key : K
  pub key_is : is_key key
  pub least : rank_at number index first ≤ rank_at number index key
  pub most : rank_at number index key ≤ rank_at number index second
  pub changed : IsChanged number index ps qs key run new

-- the first entry has the key
pub record IsFirstAt {K X : Type 0} (key : K) (es : List (K × X)) : Type 0 where
  pub there : X
  pub back : List (K × X)
  pub is : es ≡ (key, there) ∷ back
