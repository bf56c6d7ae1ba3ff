-- Totals follow the items.
use Rattle.std.proofs.Common.{◌≡◌, ℕ, zero, suc, ◌+◌, ◌-◌, ◌*◌, ◌^◌, ◌<◌, ◌≤◌, Bool, true, false, min, List, [], ◌∷◌, ◌++◌, length, slice_set, slice_index_or, refl, ap, sym, subst, ◌∙◌, arith}
use Rattle.std.specs.List.{sum_by, All}
use Rattle.std.proofs.lemmas.List.Sums.{sum_by-cons, sum_by_push}
use Rattle.std.proofs.lemmas.List.Elements.{All-head, All-tail, All-cons, All-nil, All-append}
use Rattle.sctp_tx_outstanding.specs.declared.totals.Totals.{Totals}
use Rattle.sctp_tx_outstanding.specs.declared.kept.Change.{Change}
use Rattle.sctp_tx_outstanding.specs.Item.{Item, chunk_size, size_of, header_size, is_outstanding, should_be_retransmitted, is_fast, NotBefore, never}
use Rattle.sctp_tx_outstanding.specs.Change.{apply_change}
use Rattle.sctp_tx_outstanding.specs.OutstandingData.{change_at, when, packet_part, payload_part, flight_part, queued_part, fast_part}
use Rattle.sctp_tx_outstanding.specs.Totals.{parts, nothing, replace_part, HasPart, IsSmall, AreTotals, Exchanges}
use Rattle.sctp_tx_outstanding.proofs.EarliestLemmas.{all_sooner, earliest_changed, earliest_pushed}
use Rattle.sctp_tx_outstanding.proofs.WaitingLemmas.{same_fragment}

-- ---- the item at a place

pub change_beyond : (k : ℕ) (f : Item → Item) (is : List Item) → length is ≤ k → is ≡ change_at k f is
change_beyond k f [] h = refl
change_beyond zero f (i ∷ is) h = absurd (omega (arith, h))
change_beyond (suc k) f (i ∷ is) h = ap (λ js. i ∷ js) (change_beyond k f is (omega (arith, h)))

pub change_set : (k : ℕ) (f : Item → Item) (is : List Item) (i j : Item) → k < length is → i ≡ slice_index_or is k i → j ≡ f i → slice_set is k j ≡ change_at k f is
change_set k f [] i j h at is_new = absurd (omega (arith, h))
change_set zero f (x ∷ is) i j h at is_new = ap (λ y. y ∷ is) (is_new ∙ ap f at)
change_set (suc k) f (x ∷ is) i j h at is_new = ap (λ js. x ∷ js) (change_set k f is i j (omega (arith, h)) at is_new)

pub length_change : (k : ℕ) (f : Item → Item) (is : List Item) → length (change_at k f is) ≡ length is
length_change k f [] = refl
length_change zero f (i ∷ is) = refl
length_change (suc k) f (i ∷ is) = ap (λ n. suc n) (length_change k f is)

pub exchanges_at : (m : Bool) (k : ℕ) (x : Change) (is : List Item) (i : Item) (old new : Totals) → k < length is → i ≡ slice_index_or is k i
    → old ≡ parts m i → new ≡ parts m (apply_change x i) → Exchanges m k x is old new
exchanges_at m k x [] i old new h at a b = absurd (omega (arith, h))
exchanges_at m zero x (y ∷ is) i old new h at a b = (a ∙ ap (λ j. parts m j) at, b ∙ ap (λ j. parts m (apply_change x j)) at)
exchanges_at m (suc k) x (y ∷ is) i old new h at a b = exchanges_at m k x is i old new (omega (arith, h)) at a b

pub change_same : (k : ℕ) (f : Item → Item) (is : List Item) (i : Item) → k < length is → i ≡ slice_index_or is k i → f i ≡ i → change_at k f is ≡ is
change_same k f [] i h at same = refl
change_same zero f (x ∷ is) i h at same = ap (λ y. y ∷ is) (subst (λ y. f y ≡ y) at same)
change_same (suc k) f (x ∷ is) i h at same = ap (λ js. x ∷ js) (change_same k f is i (omega (arith, h)) at same)

-- ---- sums

-- a total that follows a change of one item
pub moves : (m : Bool) (x : Change) (f : Item → ℕ) (pr : Totals → ℕ) → ((i : Item) → pr (parts m i) ≡ f i) → pr nothing ≡ 0 → (k : ℕ) (is : List Item) (old new : Totals) → Exchanges m k x is old new
    → (sum_by f (change_at k (apply_change x) is) + pr old ≡ sum_by f is + pr new) × (pr old ≤ sum_by f is)
moves m x f pr fits none k [] old new h =
    let a : pr old ≡ 0 = ap pr h.0 ∙ none in
    let b : pr new ≡ 0 = ap pr h.1 ∙ none in
    (ap (λ n. sum_by f [] + n) (a ∙ sym b), omega (arith, a))
moves m x f pr fits none zero (i ∷ is) old new h =
    let a : pr old ≡ f i = ap pr h.0 ∙ fits i in
    let b : pr new ≡ f (apply_change x i) = ap pr h.1 ∙ fits (apply_change x i) in
    let s : sum_by f (i ∷ is) ≡ f i + sum_by f is = sum_by-cons f i is in
    let t : sum_by f (apply_change x i ∷ is) ≡ f (apply_change x i) + sum_by f is = sum_by-cons f (apply_change x i) is in
    (omega (arith, a, b, s, t), omega (arith, a, s))
moves m x f pr fits none (suc k) (i ∷ is) old new h =
    let ih = moves m x f pr fits none k is old new h in
    let s : sum_by f (i ∷ is) ≡ f i + sum_by f is = sum_by-cons f i is in
    let t : sum_by f (i ∷ change_at k (apply_change x) is) ≡ f i + sum_by f (change_at k (apply_change x) is) = sum_by-cons f i (change_at k (apply_change x) is) in
    (omega (arith, ih.0, s, t), omega (arith, ih.1, s))

-- ---- none overflows

pub sum_small : (f : Item → ℕ) (most : ℕ) → ((i : Item) → IsSmall i → f i ≤ most) → (is : List Item) → All IsSmall is → sum_by f is ≤ length is * most
sum_small f most each [] h = omega arith
sum_small f most each (i ∷ is) h =
    let s : sum_by f (i ∷ is) ≡ f i + sum_by f is = sum_by-cons f i is in
    let ih = sum_small f most each is (All-tail IsSmall i is h) in
    let here : f i ≤ most = each i (All-head IsSmall i is h) in
    omega (arith, s, ih, here)

when_le : (b : Bool) (n most : ℕ) → n ≤ most → when b n ≤ most
when_le true n most h = h
when_le false n most h = omega arith

header_le : (m : Bool) → header_size m ≤ 20
header_le true = omega arith
header_le false = omega arith

chunk_le : (m : Bool) (i : Item) → IsSmall i → chunk_size m i ≤ 2 ^ 33
chunk_le m i h = omega (arith, h, header_le m)

pub packet_le : (m : Bool) (i : Item) → IsSmall i → packet_part m i ≤ 2 ^ 33
packet_le m i h = when_le (is_outstanding i) (chunk_size m i) (2 ^ 33) (chunk_le m i h)

pub payload_le : (i : Item) → IsSmall i → payload_part i ≤ 2 ^ 33
payload_le i h = when_le (is_outstanding i) (length i.fragment.payload) (2 ^ 33) (omega (arith, h))

pub one_le : (test : Item → Bool) (i : Item) → IsSmall i → when (test i) 1 ≤ 1
one_le test i h = when_le (test i) 1 1 (omega arith)

-- ---- the totals after a change

small_changed : (x : Change) (i : Item) → IsSmall i → IsSmall (apply_change x i)
small_changed x i h = omega (arith, h, ap (λ f. length f.payload) (same_fragment x i))

small_change : (k : ℕ) (x : Change) (is : List Item) → All IsSmall is → All IsSmall (change_at k (apply_change x) is)
small_change k x [] h = h
small_change zero x (i ∷ is) h = All-cons IsSmall (apply_change x i) is (small_changed x i (All-head IsSmall i is h)) (All-tail IsSmall i is h)
small_change (suc k) x (i ∷ is) h = All-cons IsSmall i (change_at k (apply_change x) is) (All-head IsSmall i is h) (small_change k x is (All-tail IsSmall i is h))

replaced : (t sum old new after most : ℕ) → t ≡ sum → after + old ≡ sum + new → old ≤ sum → after ≤ most → min (t - old + new) most ≡ after
replaced t sum old new after most a b c d = omega (arith, a, b, c, d)

bytes_fit : (n sum : ℕ) → n < 2 ^ 64 → sum ≤ n * 2 ^ 33 → sum ≤ 2 ^ 128 - 1
bytes_fit n sum few h = omega (arith, few, h)

counts_fit : (n sum : ℕ) → n < 2 ^ 64 → sum ≤ n * 1 → sum ≤ 2 ^ 64 - 1
counts_fit n sum few h = omega (arith, few, h)

module _ (m : Bool) (is js : List Item) (old new t : Totals) (before : AreTotals m is t) (few : length js < 2 ^ 64) (small : All IsSmall js) where
  abbrev Moves : (Item → ℕ) → (Totals → ℕ) → Type 0
  Moves f pr = (sum_by f js + pr old ≡ sum_by f is + pr new) × (pr old ≤ sum_by f is)

  -- totals follow where each sum does
  pub follow : Moves (packet_part m) (λ u. u.packet_bytes) → Moves payload_part (λ u. u.payload_bytes) → Moves flight_part (λ u. u.flights) → Moves queued_part (λ u. u.queued)
      → Moves fast_part (λ u. u.fast) → All (NotBefore (min t.earliest new.earliest)) js → AreTotals m js (replace_part old new t)
  follow a b c d e f = record {
    packet = replaced t.packet_bytes (sum_by (packet_part m) is) old.packet_bytes new.packet_bytes (sum_by (packet_part m) js) (2 ^ 128 - 1) before.packet a.0 a.1
        (bytes_fit (length js) (sum_by (packet_part m) js) few (sum_small (packet_part m) (2 ^ 33) (packet_le m) js small));
    payload = replaced t.payload_bytes (sum_by payload_part is) old.payload_bytes new.payload_bytes (sum_by payload_part js) (2 ^ 128 - 1) before.payload b.0 b.1
        (bytes_fit (length js) (sum_by payload_part js) few (sum_small payload_part (2 ^ 33) payload_le js small));
    flights = replaced t.flights (sum_by flight_part is) old.flights new.flights (sum_by flight_part js) (2 ^ 64 - 1) before.flights c.0 c.1
        (counts_fit (length js) (sum_by flight_part js) few (sum_small flight_part 1 (one_le is_outstanding) js small));
    queued = replaced t.queued (sum_by queued_part is) old.queued new.queued (sum_by queued_part js) (2 ^ 64 - 1) before.queued d.0 d.1
        (counts_fit (length js) (sum_by queued_part js) few (sum_small queued_part 1 (one_le should_be_retransmitted) js small));
    fast = replaced t.fast (sum_by fast_part is) old.fast new.fast (sum_by fast_part js) (2 ^ 64 - 1) before.fast e.0 e.1
        (counts_fit (length js) (sum_by fast_part js) few (sum_small fast_part 1 (one_le is_fast) js small));
    earliest = f;
    small = small;
  }

pub totals_changed : (m : Bool) (k : ℕ) (x : Change) (is : List Item) (old new t : Totals) → AreTotals m is t → length is < 2 ^ 64 → Exchanges m k x is old new
    → AreTotals m (change_at k (apply_change x) is) (replace_part old new t)
totals_changed m k x is old new t before few h =
    follow m is (change_at k (apply_change x) is) old new t before (omega (arith, few, length_change k (apply_change x) is)) (small_change k x is before.small)
    (moves m x (packet_part m) (λ u. u.packet_bytes) (λ i. refl) refl k is old new h)
    (moves m x payload_part (λ u. u.payload_bytes) (λ i. refl) refl k is old new h)
    (moves m x flight_part (λ u. u.flights) (λ i. refl) refl k is old new h)
    (moves m x queued_part (λ u. u.queued) (λ i. refl) refl k is old new h)
    (moves m x fast_part (λ u. u.fast) (λ i. refl) refl k is old new h)
    (earliest_changed m x t.earliest k is old new h before.earliest)

-- the sums hold what one item adds
same_when : (a b : Bool) (n : ℕ) → when a 1 ≡ when b 1 → when a n ≡ when b n
same_when true true n h = refl
same_when true false n h = absurd (omega (arith, h))
same_when false true n h = absurd (omega (arith, h))
same_when false false n h = refl

same_bytes : (m : Bool) (k : ℕ) (x : Change) (is : List Item) (old new : Totals) → Exchanges m k x is old new → old.flights ≡ new.flights → (old.packet_bytes ≡ new.packet_bytes) × (old.payload_bytes ≡ new.payload_bytes)
same_bytes m k x [] old new e h = (ap (λ (t : Totals). t.packet_bytes) (e.0 ∙ sym e.1), ap (λ (t : Totals). t.payload_bytes) (e.0 ∙ sym e.1))
same_bytes m zero x (i ∷ is) old new e h =
    let j = apply_change x i in
    let flies : when (is_outstanding i) 1 ≡ when (is_outstanding j) 1 = sym (ap (λ (t : Totals). t.flights) e.0) ∙ (h ∙ ap (λ (t : Totals). t.flights) e.1) in (
      ap (λ (t : Totals). t.packet_bytes) e.0 ∙ (same_when (is_outstanding i) (is_outstanding j) (chunk_size m i) flies
          ∙ (sym (ap (λ f. when (is_outstanding j) (size_of m f)) (same_fragment x i)) ∙ sym (ap (λ (t : Totals). t.packet_bytes) e.1))),
      ap (λ (t : Totals). t.payload_bytes) e.0 ∙ (same_when (is_outstanding i) (is_outstanding j) (length i.fragment.payload) flies
          ∙ (sym (ap (λ f. when (is_outstanding j) (length f.payload)) (same_fragment x i)) ∙ sym (ap (λ (t : Totals). t.payload_bytes) e.1))),
    )
same_bytes m (suc k) x (i ∷ is) old new e h = same_bytes m k x is old new e h

pub has_part : (m : Bool) (k : ℕ) (x : Change) (is : List Item) (old new t : Totals) → AreTotals m is t → Exchanges m k x is old new → HasPart old new t
has_part m k x is old new t before h =
    let a = moves m x (packet_part m) (λ u. u.packet_bytes) (λ i. refl) refl k is old new h in
    let b = moves m x payload_part (λ u. u.payload_bytes) (λ i. refl) refl k is old new h in
    let c = moves m x flight_part (λ u. u.flights) (λ i. refl) refl k is old new h in
    let d = moves m x queued_part (λ u. u.queued) (λ i. refl) refl k is old new h in
    let e = moves m x fast_part (λ u. u.fast) (λ i. refl) refl k is old new h in
    record {
      packet = omega (arith, a.1, before.packet);
      payload = omega (arith, b.1, before.payload);
      flights = omega (arith, c.1, before.flights);
      queued = omega (arith, d.1, before.queued);
      fast = omega (arith, e.1, before.fast);
      same_packet = λ same. (same_bytes m k x is old new h same).0;
      same_payload = λ same. (same_bytes m k x is old new h same).1;
    }

pushed : (f : Item → ℕ) (is : List Item) (i : Item) → (sum_by f (is ++ i ∷ []) + 0 ≡ sum_by f is + f i) × (0 ≤ sum_by f is)
pushed f is i = (omega (arith, sum_by_push f is i), omega arith)

pub totals_pushed : (m : Bool) (is : List Item) (i : Item) (t : Totals) → AreTotals m is t → length (is ++ i ∷ []) < 2 ^ 64 → IsSmall i → AreTotals m (is ++ i ∷ []) (replace_part nothing (parts m i) t)
totals_pushed m is i t before few h =
    follow m is (is ++ i ∷ []) nothing (parts m i) t before few (All-append IsSmall is (i ∷ []) before.small (All-cons IsSmall i [] h (All-nil IsSmall)))
    (pushed (packet_part m) is i) (pushed payload_part is i) (pushed flight_part is i) (pushed queued_part is i) (pushed fast_part is i) (earliest_pushed t.earliest is i before.earliest)

popped : (f : Item → ℕ) (i : Item) (is : List Item) → (sum_by f is + f i ≡ sum_by f (i ∷ is) + 0) × (f i ≤ sum_by f (i ∷ is))
popped f i is = (omega (arith, sum_by-cons f i is), omega (arith, sum_by-cons f i is))

pub totals_popped : (m : Bool) (i : Item) (is : List Item) (t : Totals) → AreTotals m (i ∷ is) t → length is < 2 ^ 64 → AreTotals m is (replace_part (parts m i) nothing t)
totals_popped m i is t before few =
    follow m (i ∷ is) is (parts m i) nothing t before few (All-tail IsSmall i is before.small)
    (popped (packet_part m) i is) (popped payload_part i is) (popped flight_part i is) (popped queued_part i is) (popped fast_part i is)
    (all_sooner t.earliest never is (All-tail (NotBefore t.earliest) i is before.earliest))

pub totals_as : (m : Bool) (is js : List Item) (t u : Totals) → AreTotals m is t → js ≡ is → u ≡ t → AreTotals m js u
totals_as m is js t u h a b = subst (λ ks. AreTotals m ks u) (sym a) (subst (λ v. AreTotals m is v) (sym b) h)

-- a part comes for one that adds as much
pub replaced_same : (old new t : Totals) → HasPart old new t → old.flights ≡ new.flights → old.queued ≡ new.queued → old.fast ≡ new.fast → t.earliest ≤ new.earliest
    → t.packet_bytes < 2 ^ 128 → t.payload_bytes < 2 ^ 128 → t.flights < 2 ^ 64 → t.queued < 2 ^ 64 → t.fast < 2 ^ 64 → t ≡ replace_part old new t
replaced_same old new t h flights queued fast latest a b c d e =
    let packet : t.packet_bytes ≡ min (t.packet_bytes - old.packet_bytes + new.packet_bytes) (2 ^ 128 - 1) = omega (arith, h.packet, h.same_packet flights, a) in
    let payload : t.payload_bytes ≡ min (t.payload_bytes - old.payload_bytes + new.payload_bytes) (2 ^ 128 - 1) = omega (arith, h.payload, h.same_payload flights, b) in
    let flying : t.flights ≡ min (t.flights - old.flights + new.flights) (2 ^ 64 - 1) = omega (arith, h.flights, flights, c) in
    let waiting : t.queued ≡ min (t.queued - old.queued + new.queued) (2 ^ 64 - 1) = omega (arith, h.queued, queued, d) in
    let faster : t.fast ≡ min (t.fast - old.fast + new.fast) (2 ^ 64 - 1) = omega (arith, h.fast, fast, e) in
    let moment : t.earliest ≡ min t.earliest new.earliest = omega (arith, latest) in
    λ j. record { packet_bytes = packet j; payload_bytes = payload j; flights = flying j; queued = waiting j; fast = faster j; earliest = moment j }
