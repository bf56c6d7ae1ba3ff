-- What is known of runs of items, as items come, change and leave.
use Rattle.std.proofs.lemmas.Bool.{cases_lt}
use Rattle.std.proofs.lemmas.Option.{slice_get_past}
use Rattle.std.proofs.lemmas.Nat.{shr-shr}
use Rattle.std.proofs.lemmas.Nat.Bits.{bit_at-zero, bit_at-lt, bit_at_not, bit_at_ones, bit_at-trailing_zeros}
use Rattle.std.proofs.Common.{w64, ◌≡◌, ◌⊎◌, inl, inr, ℕ, zero, suc, ◌+◌, ◌-◌, ◌/◌, ◌%◌, ◌^◌, ◌<◌, ◌≤◌, Bool, true, false, cond, List, [], ◌∷◌, ◌++◌, drop, length, slice_set, slice_index_or, refl, ap, sym, subst, ◌∙◌, arith}
use Rattle.std.specs.Prelude.{Option, Some, None, ◌≢◌, unwrap_or, slice_get}
use Rattle.std.specs.Int.{bit_at, bit_not, trailing_zeros}
use Rattle.sctp_tx_outstanding.specs.Item.{Item, is_outstanding, should_be_retransmitted, is_fast, is_abandoned, is_in_flight, is_given_up, is_lost, acked, uncovered, nack_state, resent, demote_fast}
use Rattle.sctp_tx_outstanding.specs.declared.item.ItemState.{ItemState}
use Rattle.sctp_tx_outstanding.specs.declared.item.ItemState.TheVariants.{InFlight, Missing, Queued, QueuedFast, Acked, GivenUp}
use Rattle.sctp_tx_outstanding.specs.declared.totals.Totals.{Totals}
use Rattle.sctp_tx_outstanding.specs.declared.kept.Change.{Change}
use Rattle.sctp_tx_outstanding.specs.declared.kept.Change.TheVariants as changes
use Rattle.sctp_tx_outstanding.specs.Change.{apply_change}
use Rattle.sctp_tx_outstanding.specs.Totals.{parts, Exchanges}
use Rattle.sctp_tx_outstanding.specs.Sizes.{IsLargeAt}
use Rattle.sctp_tx_outstanding.specs.OutstandingData.{change_at, when}
use Rattle.sctp_tx_outstanding.specs.declared.runs.Run.{Run}
use Rattle.sctp_tx_outstanding.specs.declared.runs.Runs.{Runs}
use Rattle.sctp_tx_outstanding.specs.Runs.{run_of, bit_of, nothing_known, known_of, IsKnown, IsKnownOf, AreKnown, HasRuns, SameBut, IsGivenUpOf}
use Rattle.sctp_tx_outstanding.specs.Flights.{flies_of, flies_at}
use Rattle.sctp_tx_outstanding.specs.Waiting.{waits_of, waits_at, IsAtLeast}
use Rattle.sctp_tx_outstanding.proofs.WaitingLemmas.{same_fragment, false_from_none}

-- ---- bits

pub shifted : (n k i : ℕ) → bit_at (n / 2 ^ k) i ≡ bit_at n (k + i)
shifted n k i = ap (λ x. x % 2) (shr-shr n k i)

pub no_bit : (n b : ℕ) → n ≤ 0 → bit_at n b ≡ 0
no_bit n b none =
    let e : n ≡ 0 = omega (arith, none) in
    ap (λ m. bit_at m b) e ∙ bit_at-zero b

pub some_bit : (n b : ℕ) → bit_at n b ≡ 1 → 0 < n
some_bit n b set = elim (cases_lt 0 n) [
  | inl some ↦ some
  | inr none ↦ absurd (omega (arith, set, no_bit n b none))
]

clear_below : (m i : ℕ) → m < 2 ^ 64 → i < trailing_zeros w64 m → bit_at m i ≡ 0
clear_below m i few less = elim (cases_lt 0 m) [
  | inl some ↦ (bit_at-trailing_zeros w64 m some few).2 i less
  | inr none ↦ no_bit m i none
]

-- as many bits as the zeros at the end of the others, from one bit on, are clear
pub clear_on : (n bit b : ℕ) → n / 2 ^ bit < 2 ^ 64 → bit ≤ b → b - bit < trailing_zeros w64 (n / 2 ^ bit) → bit_at n b ≡ 0
clear_on n bit b few le less =
    let e : b ≡ bit + (b - bit) = omega (arith, le) in
    ap (λ i. bit_at n i) e ∙ (sym (shifted n bit (b - bit)) ∙ clear_below (n / 2 ^ bit) (b - bit) few less)

all_set : (bit : ℕ) → bit < 64 → bit_at (2 ^ 64 - 1) bit ≡ 1
all_set bit less = bit_at_ones 64 bit less

-- ---- what is known of an item

pub nothing_of : (bit : ℕ) (o : Option Item) → bit < 64 → IsKnownOf nothing_known bit o
nothing_of bit None less = tt
nothing_of bit (Some i) less = record {
  flies = λ e. absurd (omega (arith, e, all_set bit less));
  waits = λ e. absurd (omega (arith, e, all_set bit less));
  fast = λ e. absurd (omega (arith, e, all_set bit less));
  given_up = λ e. absurd (omega (arith, e, bit_at-zero bit));
  least = λ w. omega arith;
}

flies_from : (r : Run) (bit : ℕ) (o : Option Item) → IsKnownOf r bit o → bit_at r.flying bit ≡ 0 → flies_of o ≡ false
flies_from r bit None h e = refl
flies_from r bit (Some i) h e = h.flies e

waits_from : (r : Run) (bit : ℕ) (o : Option Item) → IsKnownOf r bit o → bit_at r.waiting bit ≡ 0 → waits_of false o ≡ false
waits_from r bit None h e = refl
waits_from r bit (Some i) h e = h.waits e

fast_from : (r : Run) (bit : ℕ) (o : Option Item) → IsKnownOf r bit o → bit_at r.fast bit ≡ 0 → waits_of true o ≡ false
fast_from r bit None h e = refl
fast_from r bit (Some i) h e = h.fast e

given_up_from : (r : Run) (bit : ℕ) (o : Option Item) → IsKnownOf r bit o → bit_at r.given_up bit ≡ 1 → IsGivenUpOf o
given_up_from r bit None h e = tt
given_up_from r bit (Some i) h e = h.given_up e

module _ (runs : List Run) (o : ℕ) (is : List Item) (h : AreKnown runs o is) (k : ℕ) where
  pub none_flies : bit_at (known_of runs (run_of o k)).flying (bit_of o k) ≡ 0 → flies_at k is ≡ false
  none_flies = flies_from (known_of runs (run_of o k)) (bit_of o k) (slice_get is k) (h k)

  pub none_waits : bit_at (known_of runs (run_of o k)).waiting (bit_of o k) ≡ 0 → waits_at false k is ≡ false
  none_waits = waits_from (known_of runs (run_of o k)) (bit_of o k) (slice_get is k) (h k)

  pub none_fast : bit_at (known_of runs (run_of o k)).fast (bit_of o k) ≡ 0 → waits_at true k is ≡ false
  none_fast = fast_from (known_of runs (run_of o k)) (bit_of o k) (slice_get is k) (h k)

  was_given_up : bit_at (known_of runs (run_of o k)).given_up (bit_of o k) ≡ 1 → IsGivenUpOf (slice_get is k)
  was_given_up = given_up_from (known_of runs (run_of o k)) (bit_of o k) (slice_get is k) (h k)

-- as many items from a place on were given up as bits of the others are clear
pub given_up_on : (runs : List Run) (o : ℕ) (is : List Item) → AreKnown runs o is → (place k bits count : ℕ) → bits ≡ (known_of runs (run_of o place)).given_up → place ≤ k → k < place + count → bit_of o place + count ≤ 64
    → ((b : ℕ) → bit_of o place ≤ b → b < bit_of o place + count → bit_at (bit_not w64 bits) b ≡ 0) → bits < 2 ^ 64 → IsGivenUpOf (slice_get is k)
given_up_on runs o is h place k bits count at above below within clear small =
    let run : run_of o k ≡ run_of o place = omega (arith, above, below, within) in
    let bit : bit_of o k ≡ bit_of o place + (k - place) = omega (arith, above, below, within) in
    let few : bit_of o k < 64 = omega arith in
    let none : bit_at (bit_not w64 bits) (bit_of o k) ≡ 0 = clear (bit_of o k) (omega (arith, bit)) (omega (arith, bit, above, below)) in
    let set : bit_at bits (bit_of o k) ≡ 1 = omega (arith, none, bit_at_not w64 bits (bit_of o k) small few, bit_at-lt bits (bit_of o k)) in
    let same : bits ≡ (known_of runs (run_of o k)).given_up = at ∙ ap (λ n. (known_of runs n).given_up) (sym run) in
    was_given_up runs o is h k (subst (λ x. bit_at x (bit_of o k) ≡ 1) same set)

pub of_each : (old new : Run) (bit : ℕ) → ((b : ℕ) (i : Item) → b < 64 → b ≢ bit → IsKnown old b i → IsKnown new b i) → (b : ℕ) (o : Option Item) → b < 64 → b ≢ bit → IsKnownOf old b o → IsKnownOf new b o
of_each old new bit h b None less other known = tt
of_each old new bit h b (Some i) less other known = h b i less other known

-- ---- the list of runs

pub past : (runs : List Run) (r : ℕ) → length runs ≤ r → known_of runs r ≡ nothing_known
past runs r le = ap (λ o. unwrap_or o nothing_known) (slice_get_past runs r le)

pub listed : (runs : List Run) (r : ℕ) (x : Run) → r < length runs → x ≡ slice_index_or runs r x → known_of runs r ≡ x
listed [] r x less at = absurd (omega (arith, less))
listed (y ∷ ys) zero x less at = sym at
listed (y ∷ ys) (suc r) x less at = listed ys r x (omega (arith, less)) at

pub found : (is : List Item) (k : ℕ) (i : Item) → k < length is → i ≡ slice_index_or is k i → slice_get is k ≡ Some i
found [] k i less at = absurd (omega (arith, less))
found (x ∷ is) zero i less at = ap (λ (j : Item). Some j) (sym at)
found (x ∷ is) (suc k) i less at = found is k i (omega (arith, less)) at

set_here : (runs : List Run) (r : ℕ) (b : Run) → (known_of (slice_set runs r b) r ≡ b) ⊎ (known_of (slice_set runs r b) r ≡ nothing_known)
set_here [] zero b = inr refl
set_here [] (suc r) b = inr refl
set_here (x ∷ xs) zero b = inl refl
set_here (x ∷ xs) (suc r) b = set_here xs r b

set_other : (runs : List Run) (r n : ℕ) (b : Run) → (n ≡ r) ⊎ (known_of (slice_set runs r b) n ≡ known_of runs n)
set_other [] zero n b = inr refl
set_other [] (suc r) n b = inr refl
set_other (x ∷ xs) zero zero b = inl refl
set_other (x ∷ xs) zero (suc n) b = inr refl
set_other (x ∷ xs) (suc r) zero b = inr refl
set_other (x ∷ xs) (suc r) (suc n) b = elim (set_other xs r n b) [
  | inl same ↦ inl (ap (λ m. suc m) same)
  | inr more ↦ inr more
]

-- what is known of a run, or nothing
set_known : (runs : List Run) (r : ℕ) (b : Run) (bit : ℕ) (o : Option Item) → bit < 64 → IsKnownOf b bit o → IsKnownOf (known_of (slice_set runs r b) r) bit o
set_known runs r b bit o less h = elim (set_here runs r b) [
  | inl same ↦ subst (λ x. IsKnownOf x bit o) (sym same) h
  | inr none ↦ subst (λ x. IsKnownOf x bit o) (sym none) (nothing_of bit o less)
]

bit_small : (o k : ℕ) → bit_of o k < 64
bit_small o k = omega arith

-- something else is known of a run's items
pub renewed : (runs : List Run) (o run : ℕ) (r : Run) (is : List Item) → ((k : ℕ) → run_of o k ≡ run → IsKnownOf (known_of runs run) (bit_of o k) (slice_get is k) → IsKnownOf r (bit_of o k) (slice_get is k))
    → AreKnown runs o is → AreKnown (slice_set runs run r) o is
renewed runs o run r is new h k = elim (set_other runs run (run_of o k) r) [
  | inl at ↦ subst (λ n. IsKnownOf (known_of (slice_set runs run r) n) (bit_of o k) (slice_get is k)) (sym at)
      (set_known runs run r (bit_of o k) (slice_get is k) (bit_small o k) (new k at (subst (λ n. IsKnownOf (known_of runs n) (bit_of o k) (slice_get is k)) at (h k))))
  | inr more ↦ subst (λ x. IsKnownOf x (bit_of o k) (slice_get is k)) (sym more) (h k)
]

-- ---- the first item leaves

pub passed_within : (runs : List Run) (o : ℕ) (i : Item) (is : List Item) → AreKnown runs o (i ∷ is) → AreKnown runs (o + 1) is
passed_within runs o i is h k =
    let same : o + suc k ≡ o + 1 + k = omega arith in
    subst (λ n. IsKnownOf (known_of runs (n / 64)) (n % 64) (slice_get is k)) same (h (suc k))

tail_lem : (runs : List Run) (n : ℕ) → known_of (drop 1 runs) n ≡ known_of runs (suc n)
tail_lem [] zero = refl
tail_lem [] (suc n) = refl
tail_lem (b ∷ bs) n = refl

pub passed_run : (runs news : List Run) (o : ℕ) (i : Item) (is : List Item) → o ≡ 63 → news ≡ drop 1 runs → AreKnown runs o (i ∷ is) → AreKnown news 0 is
passed_run runs news o i is e is_rest h k =
    let next : (o + suc k) / 64 ≡ suc ((0 + k) / 64) = omega (arith, e) in
    let bit : (o + suc k) % 64 ≡ (0 + k) % 64 = omega (arith, e) in
    let same : known_of runs ((o + suc k) / 64) ≡ known_of news ((0 + k) / 64) =
    ap (λ n. known_of runs n) next ∙ (sym (tail_lem runs ((0 + k) / 64)) ∙ ap (λ bs. known_of bs ((0 + k) / 64)) (sym is_rest)) in
    subst (λ b. IsKnownOf (known_of news ((0 + k) / 64)) b (slice_get is k)) bit (subst (λ r. IsKnownOf r ((o + suc k) % 64) (slice_get is k)) same (h (suc k)))

-- ---- an item is seen

module _ (runs : List Run) (o place : ℕ) (is js : List Item) (same : SameBut place is js) (h : AreKnown runs o is) where
  seen_by : (news : List Run) → ((k : ℕ) → k ≢ place → IsKnownOf (known_of runs (run_of o k)) (bit_of o k) (slice_get is k) → IsKnownOf (known_of news (run_of o k)) (bit_of o k) (slice_get is k))
      → IsKnownOf (known_of news (run_of o place)) (bit_of o place) (slice_get js place) → AreKnown news o js
  seen_by news others here k = elim (cases_lt k place) [
    | inl under ↦ there (λ e. omega (arith, under, e))
    | inr le ↦ elim (cases_lt place k) [
      | inl over ↦ there (λ e. omega (arith, over, e))
      | inr ge ↦ at (omega (arith, le, ge))
    ]
  ] where
    there : k ≢ place → IsKnownOf (known_of news (run_of o k)) (bit_of o k) (slice_get js k)
    there other = subst (λ x. IsKnownOf (known_of news (run_of o k)) (bit_of o k) x) (sym (same k other)) (others k other (h k))

    at : place ≡ k → IsKnownOf (known_of news (run_of o k)) (bit_of o k) (slice_get js k)
    at e = subst (λ p. IsKnownOf (known_of news (run_of o p)) (bit_of o p) (slice_get js p)) e here

  pub seen_none : slice_get js place ≡ None → AreKnown runs o js
  seen_none none = seen_by runs (λ k other known. known) (subst (λ x. IsKnownOf (known_of runs (run_of o place)) (bit_of o place) x) (sym none) tt)

  pub seen_past : (run : ℕ) → run ≡ run_of o place → length runs ≤ run → AreKnown runs o js
  seen_past run at le = seen_by runs (λ k other known. known)
      (subst (λ x. IsKnownOf x (bit_of o place) (slice_get js place)) (sym (ap (λ n. known_of runs n) (sym at) ∙ past runs run le)) (nothing_of (bit_of o place) (slice_get js place) (bit_small o place)))

  pub seen : (run : ℕ) (r : Run) → run ≡ run_of o place → IsKnownOf r (bit_of o place) (slice_get js place)
      → ((b : ℕ) (x : Option Item) → b < 64 → b ≢ bit_of o place → IsKnownOf (known_of runs run) b x → IsKnownOf r b x) → AreKnown (slice_set runs run r) o js
  seen run r at here others = seen_by (slice_set runs run r) beside
      (subst (λ n. IsKnownOf (known_of (slice_set runs run r) n) (bit_of o place) (slice_get js place)) at (set_known runs run r (bit_of o place) (slice_get js place) (bit_small o place) here))
    where
      beside : (k : ℕ) → k ≢ place → IsKnownOf (known_of runs (run_of o k)) (bit_of o k) (slice_get is k) → IsKnownOf (known_of (slice_set runs run r) (run_of o k)) (bit_of o k) (slice_get is k)
      beside k other known = elim (set_other runs run (run_of o k) r) [
        | inl e ↦ subst (λ n. IsKnownOf (known_of (slice_set runs run r) n) (bit_of o k) (slice_get is k)) (sym e)
            (set_known runs run r (bit_of o k) (slice_get is k) (bit_small o k)
            (others (bit_of o k) (slice_get is k) (bit_small o k) (λ b. other (omega (arith, b, e, at))) (subst (λ n. IsKnownOf (known_of runs n) (bit_of o k) (slice_get is k)) e known)))
        | inr more ↦ subst (λ x. IsKnownOf x (bit_of o k) (slice_get is k)) (sym more) known
      ]

-- ---- items but one are the same

pub same_changed : (f : Item → Item) (p : ℕ) (is : List Item) → SameBut p is (change_at p f is)
same_changed f p [] k other = refl
same_changed f zero (i ∷ is) zero other = absurd (other refl)
same_changed f zero (i ∷ is) (suc k) other = refl
same_changed f (suc p) (i ∷ is) zero other = refl
same_changed f (suc p) (i ∷ is) (suc k) other = same_changed f p is k (λ e. other (ap (λ n. suc n) e))

pub same_pushed : (is : List Item) (i : Item) (p : ℕ) → length is ≡ p → SameBut p is (is ++ i ∷ [])
same_pushed [] i p e zero other = absurd (other e)
same_pushed [] i p e (suc k) other = refl
same_pushed (x ∷ is) i zero e k other = absurd (omega (arith, e))
same_pushed (x ∷ is) i (suc p) e zero other = refl
same_pushed (x ∷ is) i (suc p) e (suc k) other = same_pushed is i p (omega (arith, e)) k (λ d. other (ap (λ n. suc n) d))

-- ---- an item changes that is listed as before

-- given up is for good
for_good : (x : Change) (i : Item) → i.state ≡ GivenUp → is_abandoned (apply_change x i) ≡ true
for_good changes.Ack i e = ap (λ s. is_given_up (acked s)) e
for_good changes.Uncover i e = ap (λ s. is_given_up (uncovered s)) e
for_good (changes.Nack indication fast) i e = ap (λ s. is_given_up (cond (is_in_flight s) (nack_state (is_lost indication i) fast) s)) e
for_good changes.Retransmit i e = ap (λ s. is_given_up (resent s)) e
for_good changes.MissFast i e = ap (λ s. is_given_up (demote_fast s)) e
for_good changes.Abandon i e = refl

pub given_up_is : (s : ItemState) → is_given_up s ≡ true → s ≡ GivenUp
given_up_is InFlight h = cc
given_up_is Missing h = cc
given_up_is Queued h = cc
given_up_is QueuedFast h = cc
given_up_is Acked h = cc
given_up_is GivenUp h = refl

as_before : (p q : Bool) → when p 1 ≡ when q 1 → p ≡ q
as_before true true e = refl
as_before true false e = absurd (omega (arith, e))
as_before false true e = absurd (omega (arith, e))
as_before false false e = refl

module _ (m : Bool) (x : Change) (old new : Totals) (queued : old.queued ≡ new.queued) (fast : old.fast ≡ new.fast) where
  module _ (i : Item) (a : old ≡ parts m i) (b : new ≡ parts m (apply_change x i)) where
    lands : new.flights ≤ old.flights → is_outstanding i ≡ false → is_outstanding (apply_change x i) ≡ false
    lands flights h =
        let none : when (is_outstanding i) 1 ≡ 0 = ap (λ c. when c 1) h in
        false_from_none (is_outstanding (apply_change x i)) (omega (arith, flights, none, ap (λ (t : Totals). t.flights) a, ap (λ (t : Totals). t.flights) b))

    same_waits : should_be_retransmitted i ≡ should_be_retransmitted (apply_change x i)
    same_waits = as_before (should_be_retransmitted i) (should_be_retransmitted (apply_change x i)) (omega (arith, queued, ap (λ (t : Totals). t.queued) a, ap (λ (t : Totals). t.queued) b))

    same_fast : is_fast i ≡ is_fast (apply_change x i)
    same_fast = as_before (is_fast i) (is_fast (apply_change x i)) (omega (arith, fast, ap (λ (t : Totals). t.fast) a, ap (λ (t : Totals). t.fast) b))

    still_least : (least : ℕ) → IsAtLeast least i → IsAtLeast least (apply_change x i)
    still_least least h = λ w.
        let same : length (apply_change x i).fragment.payload ≡ length i.fragment.payload = ap (λ f. length f.payload) (same_fragment x i) in
        omega (arith, same, h (same_waits ∙ w))

    still_known : (r : Run) (bit : ℕ) → (bit_at r.flying bit ≡ 0 → new.flights ≤ old.flights) → IsKnown r bit i → IsKnown r bit (apply_change x i)
    still_known r bit flights h = record {
      flies = λ e. lands (flights e) (h.flies e);
      waits = λ e. sym same_waits ∙ h.waits e;
      fast = λ e. sym same_fast ∙ h.fast e;
      given_up = λ e. for_good x i (given_up_is i.state (h.given_up e));
      least = still_least r.least h.least;
    }

  known_still : (p : ℕ) (is : List Item) → Exchanges m p x is old new → (r : Run) (bit k : ℕ) → (k ≡ p → bit_at r.flying bit ≡ 0 → new.flights ≤ old.flights)
      → IsKnownOf r bit (slice_get is k) → IsKnownOf r bit (slice_get (change_at p (apply_change x) is) k)
  known_still p [] e r bit k flights h = h
  known_still zero (i ∷ is) e r bit zero flights h = still_known i e.0 e.1 r bit (flights refl) h
  known_still zero (i ∷ is) e r bit (suc k) flights h = h
  known_still (suc p) (i ∷ is) e r bit zero flights h = h
  known_still (suc p) (i ∷ is) e r bit (suc k) flights h = known_still p is e r bit k (λ d. flights (ap (λ n. suc n) d)) h

  least_still : (p : ℕ) (is : List Item) → Exchanges m p x is old new → (least k : ℕ) → IsLargeAt least k is → IsLargeAt least k (change_at p (apply_change x) is)
  least_still p [] e least k h = h
  least_still zero (i ∷ is) e least zero h = still_least i e.0 e.1 least h
  least_still zero (i ∷ is) e least (suc k) h = h
  least_still (suc p) (i ∷ is) e least zero h = h
  least_still (suc p) (i ∷ is) e least (suc k) h = least_still p is e least k h

  pub runs_still : (p : ℕ) (is : List Item) → Exchanges m p x is old new → (r : Runs) → (bit_at (known_of r.known.items (run_of r.offset p)).flying (bit_of r.offset p) ≡ 0 → new.flights ≤ old.flights)
      → HasRuns r is → HasRuns r (change_at p (apply_change x) is)
  runs_still p is e r flights h = record {
    small = h.small;
    known = λ k. known_still p is e (known_of r.known.items (run_of r.offset k)) (bit_of r.offset k) k
        (λ at none. flights (subst (λ n. bit_at (known_of r.known.items (run_of r.offset n)).flying (bit_of r.offset n) ≡ 0) at none)) (h.known k);
    least = λ k. least_still p is e r.least k (h.least k);
  }
