-- The moments at which items expire, as items come, change and leave.
use Rattle.std.proofs.Common.{◌≡◌, ℕ, zero, suc, ◌+◌, ◌-◌, ◌*◌, ◌/◌, ◌%◌, ◌^◌, ◌<◌, ◌≤◌, ◌==◌, Bool, true, false, cond, List, [], ◌∷◌, ◌++◌, length, take, slice_index_or, refl, ap, sym, subst, ◌∙◌, inl, inr, arith}
use Rattle.std.specs.Prelude.{◌⊎◌, Option, Some, None, ◌&&◌, ◌||◌, nat_lt}
use Rattle.std.specs.List.{All}
use Rattle.std.proofs.lemmas.Bool.{cases_lt, both_ways, and_from, and_parts, or_right}
use Rattle.std.proofs.lemmas.Bool.Decides.{nat_tests}
use Rattle.std.proofs.lemmas.List.{take_all, take_more, length-take-le}
use Rattle.std.proofs.lemmas.List.Elements.{All-cons, All-nil}
use Rattle.sctp_tx_outstanding.specs.declared.totals.Totals.{Totals}
use Rattle.sctp_tx_outstanding.specs.declared.kept.Change.{Change}
use Rattle.sctp_tx_outstanding.specs.declared.kept.Change.TheVariants as changes
use Rattle.sctp_tx_outstanding.specs.declared.expiries.Expiries.{Expiries}
use Rattle.sctp_tx_outstanding.specs.Item.{Item, is_past, has_nack, or_never, expiry, never, NotBefore}
use Rattle.sctp_tx_outstanding.specs.Change.{apply_change}
use Rattle.sctp_tx_outstanding.specs.OutstandingData.{change_at}
use Rattle.sctp_tx_outstanding.specs.Totals.{Exchanges}
use Rattle.sctp_tx_outstanding.specs.Messages.{pair_key}
use Rattle.sctp_tx_outstanding.specs.Numbers.{is_listed}
use Rattle.sctp_tx_outstanding.specs.Expiries.{expires_as, is_expected, expected_at, AreMoments, Expects, Gains, Moves, expires_at, ListsUpTo}
use Rattle.sctp_tx_outstanding.proofs.EarliestLemmas.{not_before}
use Rattle.sctp_tx_outstanding.proofs.NumbersLemmas.{equal, is_same_lem}
use Rattle.std.specs.Ordering.{nat_cmp}
use Rattle.std.specs.BTreeMap.{is_at}
use Rattle.sctp_serial.proofs.NumberLemmas.{equal_at}

-- ---- what is expected of an item

deadline_of : (i : Item) (m : ℕ) → m < never → expiry i ≡ m → or_never i.expires ≡ m
deadline_of i m less e = by_nack (has_nack i.state) e
  where
    by_nack : (nack : Bool) → cond nack (or_never i.expires) never ≡ m → or_never i.expires ≡ m
    by_nack true e = e
    by_nack false e = absurd (omega (arith, e, less))

later_is_expected : (dropped m : ℕ) (i : Item) → or_never i.expires ≡ m → dropped < m → is_expected dropped m i ≡ true
later_is_expected dropped m i e less =
    let later : nat_lt dropped m ≡ true = grind (arith, nat_tests, less) in
    and_from (or_never i.expires == m) (has_nack i.state || nat_lt dropped m) (is_same_lem m (or_never i.expires) e) (or_right (has_nack i.state) (nat_lt dropped m) later)

own_is_expected : (dropped m : ℕ) (i : Item) → m < never → expiry i ≡ m → is_expected dropped m i ≡ true
own_is_expected dropped m i less e = by_nack (has_nack i.state) e
  where
    by_nack : (nack : Bool) → cond nack (or_never i.expires) never ≡ m → ((or_never i.expires == m) && (nack || nat_lt dropped m)) ≡ true
    by_nack true e = and_from (or_never i.expires == m) true (is_same_lem m (or_never i.expires) e) refl
    by_nack false e = absurd (omega (arith, e, less))

-- it expires then, or its deadline lies behind
why_expected : (dropped m : ℕ) (i : Item) → is_expected dropped m i ≡ true → (expiry i ≡ m) ⊎ ((or_never i.expires ≡ m) × (dropped < m))
why_expected dropped m i h = by_nack (has_nack i.state) (and_parts (or_never i.expires == m) (has_nack i.state || nat_lt dropped m) h)
  where
    by_nack : (nack : Bool) → ((or_never i.expires == m) ≡ true) × ((nack || nat_lt dropped m) ≡ true) → (cond nack (or_never i.expires) never ≡ m) ⊎ ((or_never i.expires ≡ m) × (dropped < m))
    by_nack true h = inl (equal m (or_never i.expires) h.0)
    by_nack false h =
        let later : dropped < m = grind (arith, nat_tests, h.1) in
        inr (equal m (or_never i.expires) h.0, later)

has_deadline : (dropped m : ℕ) (i : Item) → m < never → is_expected dropped m i ≡ true → or_never i.expires ≡ m
has_deadline dropped m i less h = elim (why_expected dropped m i h) [
  | inl own ↦ deadline_of i m less own
  | inr later ↦ later.0
]

expires_expected : (dropped m k : ℕ) (is : List Item) → m < never → expires_as m k is ≡ true → expected_at dropped m k is ≡ true
expires_expected dropped m k [] less h = h
expires_expected dropped m zero (i ∷ is) less h = own_is_expected dropped m i less (equal m (expiry i) h)
expires_expected dropped m (suc k) (i ∷ is) less h = expires_expected dropped m k is less h

-- ---- an item changes

same_deadline : (x : Change) (i : Item) → (apply_change x i).expires ≡ i.expires
same_deadline changes.Ack i = refl
same_deadline changes.Uncover i = refl
same_deadline (changes.Nack indication fast) i = refl
same_deadline changes.Retransmit i = refl
same_deadline changes.MissFast i = refl
same_deadline changes.Abandon i = refl

kept_deadline : (x : Change) (i : Item) (m : ℕ) → or_never (apply_change x i).expires ≡ m → or_never i.expires ≡ m
kept_deadline x i m e = sym (ap (λ o. or_never o) (same_deadline x i)) ∙ e

further_on : {A : Type 0} {k p m w : ℕ} → A ⊎ ((k ≡ p) × (m ≡ w)) → A ⊎ ((suc k ≡ suc p) × (m ≡ w))
further_on (inl a) = inl a
further_on (inr e) = inr (ap suc e.0, e.1)

module _ (inter : Bool) (x : Change) where
  gains_changed : (p : ℕ) (is : List Item) (old new : Totals) → Exchanges inter p x is old new → Gains p new.earliest is (change_at p (apply_change x) is)
  gains_changed p [] old new e d m k less h = inl h
  gains_changed zero (i ∷ is) old new e d m zero less h = elim (why_expected d m (apply_change x i) h) [
    | inl own ↦ inr (refl, sym own ∙ sym (ap (λ (t : Totals). t.earliest) e.1))
    | inr later ↦ inl (later_is_expected d m i (kept_deadline x i m later.0) later.1)
  ]
  gains_changed zero (i ∷ is) old new e d m (suc k) less h = inl h
  gains_changed (suc p) (i ∷ is) old new e d m zero less h = inl h
  gains_changed (suc p) (i ∷ is) old new e d m (suc k) less h = further_on (gains_changed p is old new e d m k less h)

  stands_changed : (p : ℕ) (is : List Item) (old new : Totals) → Exchanges inter p x is old new → (d : ℕ) → new.earliest < never → (old.earliest ≡ new.earliest) ⊎ (d < new.earliest)
      → expected_at d new.earliest p is ≡ true
  stands_changed p [] old new e d less h = absurd (omega (arith, less, ap (λ (t : Totals). t.earliest) e.1))
  stands_changed zero (i ∷ is) old new e d less h = elim h [
    | inl same ↦ own_is_expected d new.earliest i less (sym (ap (λ (t : Totals). t.earliest) e.0) ∙ same)
    | inr later ↦ later_is_expected d new.earliest i (kept_deadline x i new.earliest (deadline_of (apply_change x i) new.earliest less (sym (ap (λ (t : Totals). t.earliest) e.1)))) later
  ]
  stands_changed (suc p) (i ∷ is) old new e d less h = stands_changed p is old new e d less h

pub moves_changed : (inter : Bool) (x : Change) (p : ℕ) (is : List Item) (old new : Totals) → Exchanges inter p x is old new → Moves p old.earliest new.earliest is (change_at p (apply_change x) is)
moves_changed inter x p is old new h = record {
  gains = gains_changed inter x p is old new h;
  stands = stands_changed inter x p is old new h;
}

-- ---- one comes

pub gains_pushed : (p moment : ℕ) (is : List Item) (i : Item) → length is ≡ p → moment ≡ or_never i.expires → Gains p moment is (is ++ i ∷ [])
gains_pushed zero moment [] i e own d m zero less h = inr (refl, sym (has_deadline d m i less h) ∙ sym own)
gains_pushed zero moment [] i e own d m (suc k) less h = inl h
gains_pushed (suc p) moment [] i e own d m k less h = absurd (omega (arith, e))
gains_pushed zero moment (x ∷ is) i e own d m k less h = absurd (omega (arith, e))
gains_pushed (suc p) moment (x ∷ is) i e own d m zero less h = inl h
gains_pushed (suc p) moment (x ∷ is) i e own d m (suc k) less h = further_on (gains_pushed p moment is i (omega (arith, e)) own d m k less h)

-- ---- the first one leaves

pub keeps_others : (moment number : ℕ) (keys news : List ℕ) → number < 2 ^ 32 → ((n : ℕ) → is_listed news n ≡ cond (n == pair_key moment number) false (is_listed keys n))
    → (m n : ℕ) → n < 2 ^ 32 → number < n → is_listed keys (pair_key m n) ≡ true → is_listed news (pair_key m n) ≡ true
keeps_others moment number keys news small put m n few above h =
    put (pair_key m n) ∙ (ap (λ b. cond b false (is_listed keys (pair_key m n))) (other (pair_key m n == pair_key moment number) refl) ∙ h)
  where
    other : (b : Bool) → (pair_key m n == pair_key moment number) ≡ b → b ≡ false
    other true e = absurd (omega (arith, equal (pair_key moment number) (pair_key m n) e, small, few, above))
    other false e = refl

pub first_left : (keys news : List ℕ) (first next dropped : ℕ) (i : Item) (is : List Item) → next ≡ first + 1
    → ((m n : ℕ) → n < 2 ^ 32 → first < n → is_listed keys (pair_key m n) ≡ true → is_listed news (pair_key m n) ≡ true)
    → AreMoments keys first dropped (i ∷ is) → AreMoments news next dropped is
first_left keys news first next dropped i is e kept known = record {
  fits = λ m k less h. omega (arith, e, known.fits m (suc k) less h);
  listed = λ m k less h.
      let place : next + k ≡ first + suc k = omega (arith, e) in
      ap (λ n. is_listed news (pair_key m n)) place ∙ kept m (first + suc k) (known.fits m (suc k) less h) (omega arith) (known.listed m (suc k) less h);
}

-- ---- the first key goes

pub expires_here : (m k : ℕ) (is : List Item) (i : Item) → k < length is → i ≡ slice_index_or is k i → (expiry i == m) ≡ expires_as m k is
expires_here m k [] i h at = absurd (omega (arith, h))
expires_here m zero (x ∷ is) i h at = ap (λ (y : Item). expiry y == m) at
expires_here m (suc k) (x ∷ is) i h at = expires_here m k is i (omega (arith, h)) at

pub none_here : (m k : ℕ) (is : List Item) → length is ≤ k → false ≡ expires_as m k is
none_here m k [] h = refl
none_here m zero (x ∷ is) h = absurd (omega (arith, h))
none_here m (suc k) (x ∷ is) h = none_here m k is (omega (arith, h))

expected_before : (a b m k : ℕ) (is : List Item) → m < never → a ≤ b → expected_at b m k is ≡ true → expected_at a m k is ≡ true
expected_before a b m k [] less le h = h
expected_before a b m zero (i ∷ is) less le h = elim (why_expected b m i h) [
  | inl own ↦ own_is_expected a m i less own
  | inr later ↦ later_is_expected a m i later.0 (omega (arith, later.1, le))
]
expected_before a b m (suc k) (i ∷ is) less le h = expected_before a b m k is less le h

expected_up_to : (b m k : ℕ) (is : List Item) → m ≤ b → expected_at b m k is ≡ true → expires_as m k is ≡ true
expected_up_to b m k [] le h = h
expected_up_to b m zero (i ∷ is) le h = elim (why_expected b m i h) [
  | inl own ↦ is_same_lem m (expiry i) own
  | inr later ↦ absurd (omega (arith, later.1, le))
]
expected_up_to b m (suc k) (i ∷ is) le h = expected_up_to b m k is le h

pub first_dropped : (key : ℕ) (keys : List ℕ) (first old new : ℕ) (b : Bool) (is : List Item) → old ≤ new → key / 2 ^ 32 ≤ new → b ≡ false
    → ((moment k : ℕ) → first + k < 2 ^ 32 → key ≡ pair_key moment (first + k) → b ≡ expires_as moment k is) → AreMoments (key ∷ keys) first old is → AreMoments keys first new is
first_dropped key keys first old new b is le passed off tells known = record {
  fits = λ m k less h. known.fits m k less (expected_before old new m k is less le h);
  listed = λ m k less h.
      let fits = known.fits m k less (expected_before old new m k is less le h) in
      other (is_at (nat_cmp (pair_key m (first + k))) key) refl
      (λ same. both_ways b off (tells m k fits same ∙ expected_up_to new m k is (omega (arith, same, fits, passed)) h))
      (known.listed m k less (expected_before old new m k is less le h));
}
  where
    other : {n : ℕ} (c : Bool) → is_at (nat_cmp n) key ≡ c → (key ≡ n → ⊥) → is_listed (key ∷ keys) n ≡ true → is_listed keys n ≡ true
    other {n = n} true here apart h = absurd (apart (equal_at n key here))
    other {n = n} false there apart h = sym (ap (λ (b : Bool). b || is_listed keys n) there) ∙ h

-- ---- before the least key none expires

fits_as : (keys : List ℕ) (first dropped m k : ℕ) (is : List Item) → AreMoments keys first dropped is → m < never → expires_as m k is ≡ true → first + k < 2 ^ 32
fits_as keys first dropped m k is known less h = known.fits m k less (expires_expected dropped m k is less h)

listed_as : (keys : List ℕ) (first dropped m k : ℕ) (is : List Item) → AreMoments keys first dropped is → m < never → expires_as m k is ≡ true → is_listed keys (pair_key m (first + k)) ≡ true
listed_as keys first dropped m k is known less h = known.listed m k less (expires_expected dropped m k is less h)

all_from : (e : ℕ) (is : List Item) → e ≤ never → ((m k : ℕ) → m < never → expires_as m k is ≡ true → e ≤ m) → All (NotBefore e) is
all_from e [] small h = All-nil (NotBefore e)
all_from e (i ∷ is) small h = All-cons (NotBefore e) i is (not_before e i own) (all_from e is small (λ m k less t. h m (suc k) less t))
  where
    own : e ≤ expiry i
    own = elim (cases_lt (expiry i) never) [
      | inl less ↦ h (expiry i) 0 less (is_same_lem (expiry i) (expiry i) refl)
      | inr more ↦ omega (arith, small, more)
    ]

pub none_before_least : (keys : List ℕ) (first dropped least e : ℕ) (is : List Item) → e ≤ never → e ≤ least / 2 ^ 32 → ((n : ℕ) → n < least → is_listed keys n ≡ false) → AreMoments keys first dropped is → All (NotBefore e) is
none_before_least keys first dropped least e is small le none known = all_from e is small later
  where
    later : (m k : ℕ) → m < never → expires_as m k is ≡ true → e ≤ m
    later m k less h = elim (cases_lt (pair_key m (first + k)) least) [
      | inl below ↦ absurd (both_ways (is_listed keys (pair_key m (first + k))) (none (pair_key m (first + k)) below) (listed_as keys first dropped m k is known less h))
      | inr above ↦ omega (arith, above, le, fits_as keys first dropped m k is known less h)
    ]

-- ---- what expires now is listed

abbrev expiry_at : ℕ → List Item → ℕ
expiry_at k [] = 0
expiry_at zero (i ∷ is) = expiry i
expiry_at (suc k) (i ∷ is) = expiry_at k is

due_by : (now : ℕ) (b : Bool) (o : Option ℕ) → (b && is_past now o) ≡ true → cond b (or_never o) never ≤ now
due_by now false o h = cc
due_by now true None h = cc
due_by now true (Some moment) h = grind (arith, nat_tests, h)

moment_by : (now k : ℕ) (is : List Item) → expires_at now k is ≡ true → expiry_at k is ≤ now
moment_by now k [] h = cc
moment_by now zero (i ∷ is) h = due_by now _ i.expires h
moment_by now (suc k) (i ∷ is) h = moment_by now k is h

moment_as : (now k : ℕ) (is : List Item) → expires_at now k is ≡ true → expires_as (expiry_at k is) k is ≡ true
moment_as now k [] h = h
moment_as now zero (i ∷ is) h = is_same_lem (expiry i) (expiry i) refl
moment_as now (suc k) (i ∷ is) h = moment_as now k is h

pub found_due : (keys places : List ℕ) (first dropped now end : ℕ) (is : List Item) → now < never → end ≡ (now + 1) * 2 ^ 32 → ListsUpTo end first keys places → AreMoments keys first dropped is
    → (k : ℕ) → expires_at now k is ≡ true → is_listed places k ≡ true
found_due keys places first dropped now end is small e lists known k h =
    let m = expiry_at k is in
    let by : m ≤ now = moment_by now k is h in
    let less : m < never = omega (arith, by, small) in
    let its = moment_as now k is h in
    let fits : first + k < 2 ^ 32 = fits_as keys first dropped m k is known less its in
    let place : pair_key m (first + k) % 2 ^ 32 - first ≡ k = omega (arith, fits) in
    ap (λ l. is_listed places l) (sym place) ∙ lists (pair_key m (first + k)) (omega (arith, by, fits, e)) (listed_as keys first dropped m k is known less its)

-- ---- one more is known

pub expects_past : (x : Expiries) (is : List Item) (k : ℕ) → length is ≤ k → Expects x (take k is) → Expects x (take (k + 1) is)
expects_past x is k h known = subst (λ (js : List Item). Expects x js) (take_all k is h ∙ sym (take_all (k + 1) is (omega (arith, h)))) known

pub expects_all : (x : Expiries) (is : List Item) (k : ℕ) → length is ≤ k → Expects x (take k is) → Expects x is
expects_all x is k h known = subst (λ (js : List Item). Expects x js) (take_all k is h) known

pub expects_next : (old new : Expiries) (k will : ℕ) (is : List Item) (i : Item) → k < length is → i ≡ slice_index_or is k i → will ≡ or_never i.expires
    → ((xs ys : List Item) → Gains k will xs ys → Expects old xs → Expects new ys) → Expects old (take k is) → Expects new (take (k + 1) is)
expects_next old new k will is i h at e lists known =
    subst (λ (xs : List Item). Expects new xs) (sym (take_more is k i h ∙ ap (λ y. take k is ++ y ∷ []) (sym at)))
    (lists (take k is) (take k is ++ i ∷ []) (gains_pushed k will (take k is) i (length-take-le k is (omega (arith, h))) e) known)

-- ---- one is passed over: its deadline lies before, and it is neither missing nor lost

not_expected : (d m : ℕ) (i : Item) → has_nack i.state ≡ false → or_never i.expires ≤ d → m < never → is_expected d m i ≡ true → ⊥
not_expected d m i calm past less h = elim (why_expected d m i h) [
  | inl own ↦ omega (arith, own, ap (λ b. cond b (or_never i.expires) never) calm, less)
  | inr later ↦ omega (arith, later.0, later.1, past)
]

passed_over : (d m k : ℕ) (is : List Item) (i : Item) → has_nack i.state ≡ false → or_never i.expires ≤ d → m < never → expected_at d m k (is ++ i ∷ []) ≡ true → expected_at d m k is ≡ true
passed_over d m zero [] i calm past less h = absurd (not_expected d m i calm past less h)
passed_over d m (suc k) [] i calm past less h = h
passed_over d m zero (x ∷ is) i calm past less h = h
passed_over d m (suc k) (x ∷ is) i calm past less h = passed_over d m k is i calm past less h

pub expects_passed : (x : Expiries) (k : ℕ) (is : List Item) (i : Item) → k < length is → i ≡ slice_index_or is k i → has_nack i.state ≡ false → or_never i.expires ≤ x.dropped
    → Expects x (take k is) → Expects x (take (k + 1) is)
expects_passed x k is i h at calm past known =
    subst (λ (xs : List Item). Expects x xs) (sym (take_more is k i h ∙ ap (λ y. take k is ++ y ∷ []) (sym at)))
    (λ is_known. record {
      fits = λ m j less e. (known is_known).fits m j less (passed_over x.dropped m j (take k is) i calm past less e);
      listed = λ m j less e. (known is_known).listed m j less (passed_over x.dropped m j (take k is) i calm past less e);
    })
