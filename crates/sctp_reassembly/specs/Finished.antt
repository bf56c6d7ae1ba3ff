-- Complete intervals by the keys at which they begin.
use Rattle.std.specs.Prelude.{◌≡◌, ◌==◌, ℕ, ◌&&◌, not, nat_lt, Bool, false, Option, Some, None, List, [], ◌∷◌}
use Rattle.std.specs.BTreeSet.{BTreeSet}
use Rattle.std.specs.List.{All}
use Rattle.sctp_fragments.specs.ReassemblyKey.{pair_rank, rank_at}
use Rattle.sctp_fragments.specs.Runs.{is_held}
use Rattle.sctp_fragments.specs.Held.{Held, rank_of, intervals_of, is_complete, is_in_turn, NonePass}
use Rattle.sctp_reassembly.specs.Delivery.{OrderedStream, IsOrdered}

-- the keys, where they are known
abbrev pub AreKnown : {K : Type 0} → (K → Type 0) → Option (BTreeSet K) → Type 0
AreKnown is_key None = Unit {0}
AreKnown is_key (Some s) = All is_key s.keys

-- whether a complete run, which begins at the rank m or above it, begins at none of the keys, where they are known
abbrev pub is_missed : {K : Type 0} → (K → ℕ) → ℕ → Option (BTreeSet K) → List Held → Bool
is_missed rank m None r = false
is_missed rank m (Some s) [] = false
is_missed rank m (Some s) (h ∷ hs) = is_complete (h ∷ hs) && (not (nat_lt (rank_of h) m) && not (is_held rank (rank_of h) s.keys))

abbrev pub NoneMissed : {K : Type 0} → (number index : K → ℕ) → ℕ → Option (BTreeSet K) → List (List Held) → Type 0
NoneMissed number index m keys rs = NonePass (is_missed (rank_at number index) m keys) rs

-- whether a run is a complete message with the number n, and begins below the rank m
abbrev pub is_earlier : ℕ → ℕ → List Held → Bool
is_earlier n m [] = false
is_earlier n m (h ∷ hs) = is_in_turn n (h ∷ hs) && nat_lt (rank_of h) m

abbrev pub NoneEarlier : ℕ → ℕ → List (List Held) → Type 0
NoneEarlier n m rs = NonePass (is_earlier n m) rs

-- a run begins with the rank
abbrev pub BeginsAt : ℕ → List Held → Type 0
BeginsAt m [] = ⊥
BeginsAt m (h ∷ hs) = rank_of h ≡ m

-- a run is the message with the number m, and with no other
abbrev pub IsNumbered : ℕ → List Held → Type 0
IsNumbered m r = (n : ℕ) → is_in_turn n r ≡ (m == n)

-- what is true of every ordered stream, as it is kept: no complete message from the next number on is missed
pub record IsKeptInOrder {K : Type 0} (number index : K → ℕ) (s : OrderedStream) (is_settled : Bool) (finished : Option (BTreeSet K)) : Type 0 where
  pub ordered : IsOrdered s is_settled
  pub noted : NoneMissed number index (pair_rank s.next 0) finished (intervals_of s.held)
