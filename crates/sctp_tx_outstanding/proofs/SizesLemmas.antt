-- How small the items are that wait to be sent again.
use Rattle.std.proofs.lemmas.Bool.{cases_lt, both_ways}
use Rattle.std.proofs.lemmas.Option.{slice_get_past}
use Rattle.std.proofs.lemmas.List.Elements.{All-cons, All-nil}
use Rattle.std.proofs.lemmas.List.Sums.{sum_by-cons}
use Rattle.std.proofs.Common.{◌≡◌, inl, inr, ℕ, zero, suc, ◌+◌, ◌*◌, ◌/◌, ◌<◌, ◌≤◌, Bool, true, List, [], ◌∷◌, length, slice_set, refl, sym, subst, arith}
use Rattle.std.specs.Prelude.{Option, Some, None, ◌≢◌, slice_get, nat_lt}
use Rattle.std.specs.List.{All, sum_by}
use Rattle.sctp_tx_outstanding.specs.Item.{Item, should_be_retransmitted, header_size, chunk_size}
use Rattle.sctp_tx_outstanding.specs.OutstandingData.{queued_part}
use Rattle.sctp_tx_outstanding.specs.declared.runs.Run.{Run}
use Rattle.sctp_tx_outstanding.specs.Runs.{run_of, bit_of, known_of, IsKnownOf, AreKnown, SameBut}
use Rattle.sctp_tx_outstanding.specs.Waiting.{IsAtLeast}
use Rattle.sctp_tx_outstanding.specs.Sizes.{IsLargeOf, IsLargeAt, AreAtLeast, Exceeds, ExceedsOf, NoneFits}
use Rattle.sctp_tx_outstanding.proofs.WaitingLemmas.{chunk_at_least, false_from_none}
use Rattle.sctp_tx_outstanding.proofs.RunsLemmas.{renewed}
use Rattle.sctp_tx_outstanding.proofs.IdleLemmas.{less_than}

-- ---- bounds

less_of : (less least : ℕ) (o : Option Item) → less ≤ least → IsLargeOf least o → IsLargeOf less o
less_of less least None le h = tt
less_of less least (Some i) le h = λ w. omega (arith, le, h w)

pub large_less : (less least k : ℕ) (is : List Item) → less ≤ least → IsLargeAt least k is → IsLargeAt less k is
large_less less least k is le h = less_of less least (slice_get is k) le h

pub large_none : (least k : ℕ) → IsLargeAt least k []
large_none least zero = tt
large_none least (suc k) = tt

pub large_past : (least k : ℕ) (is : List Item) → length is ≤ k → IsLargeAt least k is
large_past least k is le = subst (λ o. IsLargeOf least o) (sym (slice_get_past is k le)) tt

-- ---- one of all

-- the item at a place has come or changed
pub followed : (less least place : ℕ) (is js : List Item) → SameBut place is js → less ≤ least → IsLargeAt less place js → AreAtLeast least is → AreAtLeast less js
followed less least place is js same le here all k = elim (cases_lt k place) [
  | inl under ↦ there (λ e. omega (arith, under, e))
  | inr ge ↦ elim (cases_lt place k) [
    | inl over ↦ there (λ e. omega (arith, over, e))
    | inr lt ↦ at (omega (arith, ge, lt))
  ]
] where
  there : k ≢ place → IsLargeAt less k js
  there other = subst (λ o. IsLargeOf less o) (sym (same k other)) (large_less less least k is le (all k))

  at : place ≡ k → IsLargeAt less k js
  at e = subst (λ p. IsLargeAt less p js) e here

-- where none waits
pub none_small : (least : ℕ) (is : List Item) → sum_by queued_part is ≤ 0 → AreAtLeast least is
none_small least [] h k = large_none least k
none_small least (i ∷ is) h zero = λ t. absurd (both_ways (should_be_retransmitted i) (false_from_none (should_be_retransmitted i) (omega (arith, sum_by-cons queued_part i is, h))) t)
none_small least (i ∷ is) h (suc k) = none_small least is (omega (arith, sum_by-cons queued_part i is, h)) k

-- and so many wait then
pub bounded : (old less least queued place : ℕ) (is js : List Item) (i : Item) → slice_get js place ≡ Some i → SameBut place is js → queued ≡ sum_by queued_part js → less ≤ old → IsAtLeast less i
    → (0 < queued → least ≡ less) → AreAtLeast old is → AreAtLeast least js
bounded old less least queued place is js i lookup same sum le here bound all = elim (cases_lt 0 queued) [
  | inl some ↦ subst (λ n. AreAtLeast n js) (sym (bound some)) (followed less old place is js same le (subst (λ o. IsLargeOf less o) (sym lookup) here) all)
  | inr none ↦ none_small least js (omega (arith, none, sum))
]

pub chunks_at_least : (m : Bool) (least size : ℕ) (is : List Item) → size ≤ least → AreAtLeast least is → All (λ i. should_be_retransmitted i ≡ true → (header_size m + size + 3) / 4 * 4 ≤ chunk_size m i) is
chunks_at_least m least size [] le h = All-nil (λ i. should_be_retransmitted i ≡ true → (header_size m + size + 3) / 4 * 4 ≤ chunk_size m i)
chunks_at_least m least size (i ∷ is) le h =
    All-cons (λ j. should_be_retransmitted j ≡ true → (header_size m + size + 3) / 4 * 4 ≤ chunk_size m j) i is (chunk_at_least m least size i le (h 0)) (chunks_at_least m least size is le (λ k. h (suc k)))

-- ---- runs

with_least : (r : Run) (least bit : ℕ) (o : Option Item) → IsLargeOf least o → IsKnownOf r bit o → IsKnownOf (record r { least = least }) bit o
with_least r least bit None large h = tt
with_least r least bit (Some i) large h = record { flies = h.flies; waits = h.waits; fast = h.fast; given_up = h.given_up; least = large }

pub settled : (runs : List Run) (o run least : ℕ) (r : Run) (is : List Item) → known_of runs run ≡ r → ((k : ℕ) → run_of o k ≡ run → IsLargeAt least k is) → AreKnown runs o is → AreKnown (slice_set runs run (record r { least = least })) o is
settled runs o run least r is at large h =
    renewed runs o run (record r { least = least }) is (λ k e known. with_least r least (bit_of o k) (slice_get is k) (large k e) (subst (λ x. IsKnownOf x (bit_of o k) (slice_get is k)) at known)) h

large_from : (r : Run) (bit : ℕ) (o : Option Item) → IsKnownOf r bit o → IsLargeOf r.least o
large_from r bit None h = tt
large_from r bit (Some i) h = h.least

pub large_at : (runs : List Run) (o : ℕ) (is : List Item) → AreKnown runs o is → (k : ℕ) → IsLargeAt (known_of runs (run_of o k)).least k is
large_at runs o is h k = large_from (known_of runs (run_of o k)) (bit_of o k) (slice_get is k) (h k)

-- ---- chunks

pub exceeds_lem : (m : Bool) (allowed least payload size : ℕ) (i : Item) → payload ≤ least → size ≡ (header_size m + payload + 3) / 4 * 4 → nat_lt allowed size ≡ true → IsAtLeast least i → Exceeds m allowed i
exceeds_lem m allowed least payload size i le e more_bytes h = λ w.
    let less : allowed < size = less_than allowed allowed size refl more_bytes in
    let more : (header_size m + payload + 3) / 4 * 4 ≤ chunk_size m i = chunk_at_least m least payload i le h w in
    omega (arith, less, e, more)

exceeds_of : (m : Bool) (allowed least : ℕ) (o : Option Item) → ((i : Item) → IsAtLeast least i → Exceeds m allowed i) → IsLargeOf least o → ExceedsOf m allowed o
exceeds_of m allowed least None all h = tt
exceeds_of m allowed least (Some i) all h = all i h

-- none fits in the runs from one on up to another
pub none_fits_lem : (m : Bool) (allowed o place to run next : ℕ) (runs : List Run) (is : List Item) → run ≡ run_of o place → ((k : ℕ) → k < to → place ≤ k → run_of o k < next)
    → ((n : ℕ) (i : Item) → run ≤ n → n < next → IsAtLeast (known_of runs n).least i → Exceeds m allowed i) → AreKnown runs o is → NoneFits m allowed place to is
none_fits_lem m allowed o place to run next runs is at before all h = λ k above below.
    let from : run ≤ run_of o k = omega (arith, at, above) in
    exceeds_of m allowed (known_of runs (run_of o k)).least (slice_get is k) (λ i. all (run_of o k) i from (before k below above)) (large_at runs o is h k)
