-- The items of each message, as items come, change and leave.
use Rattle.std.proofs.Common.{◌≡◌, ℕ, zero, suc, ◌+◌, ◌-◌, ◌^◌, ◌<◌, ◌≤◌, ◌==◌, Bool, true, false, cond, List, [], ◌∷◌, ◌++◌, Option, Some, None, length, take, drop, slice_index_or, refl, ap, sym, subst, ◌∙◌, inl, inr, arith}
use Rattle.std.specs.Prelude.{◌&&◌, ◌||◌, ◌⊎◌, map}
use Rattle.std.specs.Ordering.{nat_cmp}
use Rattle.std.specs.BTreeMap.{is_at}
use Rattle.std.specs.List.Sorted.{IsNonDecreasing, IsPermutation}
use Rattle.std.proofs.lemmas.List.Folds.{list_any-append}
use Rattle.std.proofs.lemmas.List.Sorted.{list_any-IsPermutation}
use Rattle.std.proofs.lemmas.Bool.{cases_lt, and_from, and_parts, false≢true}
use Rattle.std.proofs.lemmas.List.{append-nil, length-append, take_all, take_more, length-take-le}
use Rattle.sctp_chunk.specs.Chunk.{FragmentTree}
use Rattle.sctp_tx_outstanding.specs.declared.kept.Change.{Change}
use Rattle.sctp_tx_outstanding.specs.declared.kept.Change.TheVariants as changes
use Rattle.sctp_tx_outstanding.specs.Item.{Item, is_of, abandon}
use Rattle.sctp_tx_outstanding.specs.Change.{apply_change}
use Rattle.sctp_tx_outstanding.specs.OutstandingData.{Items, Discard, change_at, abandon_if_of, is_of_at, last_of, later_of, later_at, without_payload}
use Rattle.sctp_tx_outstanding.specs.Losses.{placeholder, placeholders, discards_of, abandon_message}
use Rattle.sctp_tx_outstanding.specs.Numbers.{is_listed}
use Rattle.sctp_tx_outstanding.specs.Messages.{NoneIsOf, IsWhole, is_end_at, is_of_as, pair_key, AreKeys, Lists, Finds, IsFirstFrom}
use Rattle.sctp_tx_outstanding.specs.declared.messages.Messages.{Messages}
use Rattle.sctp_tx_outstanding.proofs.AbandonedItemsLemmas.{laid}
use Rattle.sctp_tx_outstanding.proofs.TotalsLemmas.{length_change}
use Rattle.sctp_tx_outstanding.proofs.NumbersLemmas.{same_key as is_at_key, as_at, as_never, as_alike, as_turned, here, ahead, behind, further, not_below, is_same_lem, equal}
use Rattle.sctp_serial.proofs.NumberLemmas.{greater_differs}

-- ---- keys

same_message : (m j n l : ℕ) → n < 2 ^ 32 → l < 2 ^ 32 → pair_key m n ≡ pair_key j l → m ≡ j
same_message m j n l a b e = omega (arith, a, b, e)

same_number : (m j n l : ℕ) → n < 2 ^ 32 → l < 2 ^ 32 → pair_key m n ≡ pair_key j l → n ≡ l
same_number m j n l a b e = omega (arith, a, b, e)

both_same : (a b c : Bool) → (a ≡ true → b ≡ true) → (a ≡ true → c ≡ true) → (b ≡ true → c ≡ true → a ≡ true) → a ≡ (b && c)
both_same true b c p q r = sym (ap (λ x. x && c) (p refl) ∙ q refl)
both_same false true true p q r = r refl refl
both_same false true false p q r = refl
both_same false false c p q r = refl

same_key : (m j n l : ℕ) → n < 2 ^ 32 → l < 2 ^ 32 → (pair_key m n == pair_key j l) ≡ ((m == j) && (n == l))
same_key m j n l a b =
    both_same (pair_key m n == pair_key j l) (m == j) (n == l) (λ t. is_same_lem j m (same_message m j n l a b (equal (pair_key j l) (pair_key m n) t))) (λ t. is_same_lem l n (same_number m j n l a b (equal (pair_key j l) (pair_key m n) t)))
    (λ p q. is_same_lem (pair_key j l) (pair_key m n) (joined (equal j m p) (equal l n q)))
  where
    joined : m ≡ j → n ≡ l → pair_key m n ≡ pair_key j l
    joined p q = omega (arith, p, q)

-- ---- one comes

of_end : (message p : ℕ) (is : List Item) → length is ≡ p → (k : ℕ) → is_of_at message k is ≡ cond (k == p) false (is_of_at message k is)
of_end message p [] e k = nowhere (k == p)
  where
    nowhere : (c : Bool) → false ≡ cond c false false
    nowhere true = refl
    nowhere false = refl
of_end message zero (i ∷ is) e k = absurd (omega (arith, e))
of_end message (suc p) (i ∷ is) e zero = ahead p false (is_of message i)
of_end message (suc p) (i ∷ is) e (suc k) = further k p false (is_of_at message k is) (is_of_at message k is) (of_end message p is (omega (arith, e)) k)

of_more : (message p : ℕ) (is : List Item) (i : Item) → length is ≡ p → (k : ℕ) → is_of_at message k (is ++ i ∷ []) ≡ cond (k == p) (is_of message i) (is_of_at message k is)
of_more message zero [] i e zero = here (is_of message i) (is_of message i) false refl
of_more message zero [] i e (suc k) = behind k (is_of message i) false
of_more message (suc p) [] i e k = absurd (omega (arith, e))
of_more message zero (x ∷ is) i e k = absurd (omega (arith, e))
of_more message (suc p) (x ∷ is) i e zero = ahead p (is_of message i) (is_of message x)
of_more message (suc p) (x ∷ is) i e (suc k) = further k p (is_of message i) (is_of_at message k is) (is_of_at message k (is ++ i ∷ [])) (of_more message p is i (omega (arith, e)) k)

came : (a b w x y : Bool) → w ≡ a → x ≡ y → y ≡ cond b false y → cond (a && b) true x ≡ cond b w y
came true true w x y e f h = sym e
came true false w x y e f h = f
came false true w x y e f h = f ∙ (h ∙ sym e)
came false false w x y e f h = f

pub turn_round : (m j : ℕ) → (j == m) ≡ (m == j)
turn_round m j = elim (cases_lt m j) [
  | inl less ↦ greater_differs m j less ∙ sym (not_below j m less)
  | inr le ↦ elim (cases_lt j m) [
    | inl more ↦ not_below m j more ∙ sym (greater_differs j m more)
    | inr ge ↦ is_same_lem m j (omega (arith, le, ge)) ∙ sym (is_same_lem j m (omega (arith, le, ge)))
  ]
]

pub taken : (keys news : List ℕ) (first number : ℕ) (is : List Item) (i : Item) (place message : ℕ) → length is ≡ place → number ≡ first + place → number < 2 ^ 32 → i.number ≡ message
    → ((key : ℕ) → is_listed news key ≡ cond (key == pair_key message number) true (is_listed keys key)) → AreKeys keys first is → AreKeys news first (is ++ i ∷ [])
taken keys news first number is i place message e at small of put known = record {
  fits = omega (arith, e, at, small, length-append is (i ∷ []));
  same = λ m n from few.
      put (pair_key m n) ∙ (ap (λ b. cond b true (is_listed keys (pair_key m n))) (same_key m message n number few small)
      ∙ (came (m == message) (n == number) (is_of m i) (is_listed keys (pair_key m n)) (is_of_as first m n is) (ap (λ j. j == m) of ∙ turn_round m message) (known.same m n from few)
      (as_turned first place false (λ k. is_of_at m k is) (λ k. is_of_at m k is) (of_end m place is e) n ∙ ap (λ l. cond (n == l) false (is_of_as first m n is)) (sym at))
      ∙ (ap (λ l. cond (n == l) (is_of m i) (is_of_as first m n is)) at
      ∙ sym (as_turned first place (is_of m i) (λ k. is_of_at m k is) (λ k. is_of_at m k (is ++ i ∷ [])) (of_more m place is i e) n))));
}

-- ---- its key, among those added or behind those sorted

pub listed_both : (xs ys : List ℕ) (key : ℕ) → is_listed (xs ++ ys) key ≡ (is_listed xs key || is_listed ys key)
listed_both xs ys key = list_any-append (is_at (nat_cmp key)) xs ys

or_put : (a b c : Bool) → (a || cond b true c) ≡ cond b true (a || c)
or_put true true c = refl
or_put true false c = refl
or_put false b c = refl

pub put_added : (xs olds news : List ℕ) (k : ℕ) → ((key : ℕ) → is_listed news key ≡ cond (key == k) true (is_listed olds key)) → (key : ℕ) → is_listed (xs ++ news) key ≡ cond (key == k) true (is_listed (xs ++ olds) key)
put_added xs olds news k put key =
    listed_both xs news key ∙ (ap (λ b. is_listed xs key || b) (put key)
    ∙ (or_put (is_listed xs key) (key == k) (is_listed olds key) ∙ ap (λ b. cond (key == k) true b) (sym (listed_both xs olds key))))

or_push : (a b c : Bool) → ((a || (b || false)) || c) ≡ cond b true (a || c)
or_push true true c = refl
or_push true false c = refl
or_push false true c = refl
or_push false false c = refl

pub put_sorted : (xs ys : List ℕ) (k key : ℕ) → is_listed ((xs ++ k ∷ []) ++ ys) key ≡ cond (key == k) true (is_listed (xs ++ ys) key)
put_sorted xs ys k key =
    listed_both (xs ++ k ∷ []) ys key ∙ (ap (λ b. b || is_listed ys key) (listed_both xs (k ∷ []) key)
    ∙ (ap (λ b. (is_listed xs key || (b || false)) || is_listed ys key) (is_at_key key k ∙ turn_round key k)
    ∙ (or_push (is_listed xs key) (key == k) (is_listed ys key) ∙ ap (λ b. cond (key == k) true b) (sym (listed_both xs ys key)))))

-- ---- the keys are sorted

pub reordered : (xs ys added : List ℕ) (first : ℕ) (is : List Item) → IsPermutation xs ys → AreKeys (xs ++ added) first is → AreKeys (ys ++ added) first is
reordered xs ys added first is moved known = record {
  fits = known.fits;
  same = λ m n from few.
      let key = pair_key m n in
      listed_both ys added key ∙ (ap (λ b. b || is_listed added key) (sym (list_any-IsPermutation (is_at (nat_cmp key)) xs ys moved)) ∙ (sym (listed_both xs added key) ∙ known.same m n from few));
}

-- ---- none is kept

pub none_kept : (keys : List ℕ) → keys ≡ [] → AreKeys keys 0 []
none_kept keys e = record {
  fits = omega arith;
  same = λ m n from few. ap (λ ks. is_listed ks (pair_key m n)) e ∙ sym (as_never 0 (λ k. is_of_at m k []) (λ k. refl) n);
}

-- ---- items change

same_id : (x : Change) (i : Item) → (apply_change x i).number ≡ i.number
same_id changes.Ack i = refl
same_id changes.Uncover i = refl
same_id (changes.Nack indication fast) i = refl
same_id changes.Retransmit i = refl
same_id changes.MissFast i = refl
same_id changes.Abandon i = refl

of_changed : (message : ℕ) (x : Change) (p : ℕ) (is : List Item) (k : ℕ) → is_of_at message k (change_at p (apply_change x) is) ≡ is_of_at message k is
of_changed message x p [] k = refl
of_changed message x zero (i ∷ is) zero = ap (λ n. n == message) (same_id x i)
of_changed message x zero (i ∷ is) (suc k) = refl
of_changed message x (suc p) (i ∷ is) zero = refl
of_changed message x (suc p) (i ∷ is) (suc k) = of_changed message x p is k

pub finds_changed : (f : Messages) (x : Change) (p : ℕ) (is : List Item) → Finds f is → Finds f (change_at p (apply_change x) is)
finds_changed f x p is finds = record {
  lists = λ yes.
      let known = finds.lists yes in
      record {
        fits = omega (arith, known.fits, length_change p (apply_change x) is);
        same = λ m n from few. known.same m n from few ∙ sym (as_alike f.first (λ k. is_of_at m k is) (λ k. is_of_at m k (change_at p (apply_change x) is)) (of_changed m x p is) n);
      };
  ascends = finds.ascends;
}

-- ---- one more is listed

pub lists_next : (old new : Messages) (is : List Item) (k : ℕ) (i : Item) → k < length is → i ≡ slice_index_or is k i
    → ((js : List Item) (j : Item) → length js ≡ k → j.number ≡ i.number → Lists old js → Lists new (js ++ j ∷ [])) → Lists old (take k is) → Lists new (take (k + 1) is)
lists_next old new is k i h at adds known =
    subst (λ (xs : List Item). Lists new xs) (sym (take_more is k i h ∙ ap (λ y. take k is ++ y ∷ []) (sym at))) (adds (take k is) i (length-take-le k is (omega (arith, h))) refl known)

pub lists_past : (f : Messages) (is : List Item) (k : ℕ) → length is ≤ k → Lists f (take k is) → Lists f (take (k + 1) is)
lists_past f is k h known = subst (λ (xs : List Item). Lists f xs) (take_all k is h ∙ sym (take_all (k + 1) is (omega (arith, h)))) known

pub lists_all : (f : Messages) (is : List Item) (k : ℕ) → length is ≤ k → Lists f (take k is) → Lists f is
lists_all f is k h known = subst (λ (xs : List Item). Lists f xs) (take_all k is h) known

-- ---- keys that ascend

both_not : (a b : Bool) → a ≡ false → b ≡ false → (a || b) ≡ false
both_not true b p q = p
both_not false b p q = q

pub in_neither : (xs ys : List ℕ) (n : ℕ) → is_listed xs n ≡ false → is_listed ys n ≡ false → is_listed (xs ++ ys) n ≡ false
in_neither xs ys n p q = listed_both xs ys n ∙ both_not (is_listed xs n) (is_listed ys n) p q

pub in_none : (xs : List ℕ) (n : ℕ) → xs ≡ [] → is_listed xs n ≡ false
in_none xs n e = ap (λ (ks : List ℕ). is_listed ks n) e

not_listed : (n : ℕ) (keys : List ℕ) → ((k : ℕ) → k < length keys → (slice_index_or keys k 0 < n) ⊎ (n < slice_index_or keys k 0)) → is_listed keys n ≡ false
not_listed n [] h = refl
not_listed n (x ∷ xs) h = both_not (is_at (nat_cmp n) x) (is_listed xs n) (is_at_key n x ∙ other (h 0 (omega arith))) (not_listed n xs (λ k l. h (suc k) (omega (arith, l))))
  where
    other : (x < n) ⊎ (n < x) → (x == n) ≡ false
    other (inl less) = not_below n x less
    other (inr more) = greater_differs n x more

pub differs : (key n : ℕ) → (n == key) ≡ false → (key < n) ⊎ (n < key)
differs key n h = elim (cases_lt key n) [
  | inl less ↦ inl less
  | inr le ↦ elim (cases_lt n key) [
    | inl more ↦ inr more
    | inr ge ↦ absurd (false≢true (sym h ∙ is_same_lem key n (omega (arith, le, ge))))
  ]
]

pub first_found : (keys : List ℕ) (from i : ℕ) → i < length keys → slice_index_or keys i 0 ≡ from → IsNonDecreasing keys → IsFirstFrom from i keys
first_found keys from i within at up = record {
  before = λ k below. elim (cases_lt (slice_index_or keys k 0) from) [
    | inl less ↦ inl less
    | inr le ↦ inr (within, omega (arith, le, at, up k i 0 (omega (arith, below)) within))
  ];
  there = λ l. omega (arith, at);
}

pub first_above : (keys : List ℕ) (from i : ℕ) → ((k : ℕ) → k < i → slice_index_or keys k 0 < from) → ((k : ℕ) → i ≤ k → k < length keys → from < slice_index_or keys k 0) → IsFirstFrom from i keys
first_above keys from i below above = record {
  before = λ k l. inl (below k l);
  there = λ l. omega (arith, above i (omega arith) l);
}

module _ (keys : List ℕ) (from place n : ℕ) (up : IsNonDecreasing keys) (f : IsFirstFrom from place keys) (onward : from ≤ n) where
  pub none_before : (place < length keys → n < slice_index_or keys place 0) → is_listed keys n ≡ false
  none_before less = not_listed n keys (λ k l. elim (cases_lt k place) [
    | inl below ↦ elim (f.before k below) [
      | inl small ↦ inl (omega (arith, small, onward))
      | inr same ↦ inr (omega (arith, less same.0, same.1))
    ]
    | inr above ↦ inr (omega (arith, less (omega (arith, above, l)), up place k 0 above l))
  ])

  pub none_beside : (key last : ℕ) → n ≤ last → (n == key) ≡ false → slice_index_or keys place 0 ≡ key → (place + 1 < length keys → last < slice_index_or keys (place + 1) 0) → is_listed keys n ≡ false
  none_beside key last upto other at next = not_listed n keys (λ k l. elim (cases_lt k place) [
    | inl below ↦ elim (f.before k below) [
      | inl small ↦ inl (omega (arith, small, onward))
      | inr same ↦ apart k (same.1 ∙ at)
    ]
    | inr above ↦ elim (cases_lt place k) [
      | inl more ↦ inr (omega (arith, upto, next (omega (arith, more, l)), up (place + 1) k 0 (omega (arith, more)) l))
      | inr le ↦
          let same : k ≡ place = omega (arith, above, le) in
          apart k (ap (λ j. slice_index_or keys j 0) same ∙ at)
    ]
  ]) where
    apart : (k : ℕ) → slice_index_or keys k 0 ≡ key → (slice_index_or keys k 0 < n) ⊎ (n < slice_index_or keys k 0)
    apart k e = elim (differs key n other) [
      | inl less ↦ inl (omega (arith, less, e))
      | inr more ↦ inr (omega (arith, more, e))
    ]

-- ---- from one of a message to the next

pub none_of : (keys : List ℕ) (first message from to : ℕ) (is : List Item) → AreKeys keys first is → first + to ≤ 2 ^ 32
    → ((key : ℕ) → pair_key message (first + from) ≤ key → key < pair_key message (first + to) → is_listed keys key ≡ false) → NoneIsOf message from to is
none_of keys first message from to is known few none = λ k above below.
    sym (as_at first (λ j. is_of_at message j is) k) ∙ (sym (known.same message (first + k) (omega arith) (omega (arith, below, few))) ∙ none (pair_key message (first + k)) (omega (arith, above)) (omega (arith, below)))

-- none but the item at one place
pub none_other : (keys : List ℕ) (first message place k : ℕ) (is : List Item) → AreKeys keys first is → first + k < 2 ^ 32 → (k < place) ⊎ (place < k)
    → ((n : ℕ) → pair_key message first ≤ n → n ≤ pair_key message 4294967295 → (n == pair_key message (first + place)) ≡ false → is_listed keys n ≡ false) → is_of_at message k is ≡ false
none_other keys first message place k is known few apart none =
    let key = pair_key message (first + k) in
    sym (as_at first (λ j. is_of_at message j is) k) ∙ (sym (known.same message (first + k) (omega arith) few) ∙ none key (omega arith) (omega (arith, few)) (other apart))
  where
    other : (k < place) ⊎ (place < k) → (pair_key message (first + k) == pair_key message (first + place)) ≡ false
    other (inl less) = not_below (pair_key message (first + place)) (pair_key message (first + k)) (omega (arith, less))
    other (inr more) = greater_differs (pair_key message (first + place)) (pair_key message (first + k)) (omega (arith, more))

pub none_here : (message place : ℕ) (is : List Item) → NoneIsOf message place place is
none_here message place is = λ k above below. absurd (omega (arith, above, below))

pub none_less : (message from to less : ℕ) (is : List Item) → less ≤ to → NoneIsOf message from to is → NoneIsOf message from less is
none_less message from to less is le h = λ k above below. h k above (omega (arith, below, le))

-- ---- a message is laid down

yes : (b : Bool) (i j : Item) → b ≡ true → i ≡ cond b i j
yes true i j h = refl
yes false i j h = cc

no : (b : Bool) (i j : Item) → b ≡ false → j ≡ cond b i j
no true i j h = cc
no false i j h = refl

pub laid_of : (number k : ℕ) (is : List Item) → is_of_at number k is ≡ true → change_at k (λ i. abandon i) is ≡ change_at k (abandon_if_of number) is
laid_of number k [] h = refl
laid_of number zero (i ∷ is) h = ap (λ j. j ∷ is) (yes (is_of number i) (abandon i) i h)
laid_of number (suc k) (i ∷ is) h = ap (λ js. i ∷ js) (laid_of number k is h)

pub laid_not : (number k : ℕ) (is : List Item) → is_of_at number k is ≡ false → is ≡ change_at k (abandon_if_of number) is
laid_not number k [] h = refl
laid_not number zero (i ∷ is) h = ap (λ j. j ∷ is) (no (is_of number i) (abandon i) i h)
laid_not number (suc k) (i ∷ is) h = ap (λ js. i ∷ js) (laid_not number k is h)

laid_one : (number k : ℕ) (is : List Item) → change_at k (abandon_if_of number) (laid k number is) ≡ laid (suc k) number is
laid_one number zero [] = refl
laid_one number zero (i ∷ is) = refl
laid_one number (suc k) [] = refl
laid_one number (suc k) (i ∷ is) = ap (λ js. abandon_if_of number i ∷ js) (laid_one number k is)

laid_past : (number k : ℕ) (is : List Item) → is_of_at number k is ≡ false → laid (suc k) number is ≡ laid k number is
laid_past number zero [] h = refl
laid_past number zero (i ∷ is) h = ap (λ j. j ∷ is) (sym (no (is_of number i) (abandon i) i h))
laid_past number (suc k) [] h = refl
laid_past number (suc k) (i ∷ is) h = ap (λ js. abandon_if_of number i ∷ js) (laid_past number k is h)

laid_more : (number more p n : ℕ) (is : List Item) → n ≡ more + p → NoneIsOf number p n is → laid n number is ≡ laid p number is
laid_more number zero p n is e h =
    let same : n ≡ p = omega (arith, e) in
    ap (λ k. laid k number is) same
laid_more number (suc more) p n is e h =
    let is_next : n ≡ suc (more + p) = omega (arith, e) in
    ap (λ k. laid k number is) is_next ∙ (laid_past number (more + p) is (h (more + p) (omega arith) (omega (arith, e))) ∙ laid_more number more p (more + p) is refl (none_less number p n (more + p) is (omega (arith, e)) h))

laid_id : (b : Bool) (i : Item) → (cond b (abandon i) i).number ≡ i.number
laid_id true i = refl
laid_id false i = refl

of_laid : (message p number : ℕ) (is : List Item) (k : ℕ) → is_of_at message k (laid p number is) ≡ is_of_at message k is
of_laid message zero number is k = refl
of_laid message (suc p) number [] k = refl
of_laid message (suc p) number (i ∷ is) zero = ap (λ n. n == message) (laid_id (is_of number i) i)
of_laid message (suc p) number (i ∷ is) (suc k) = of_laid message p number is k

none_laid : (number p from to : ℕ) (is now : List Item) → now ≡ laid p number is → NoneIsOf number from to now → NoneIsOf number from to is
none_laid number p from to is now e h = λ k above below. sym (ap (λ js. is_of_at number k js) e ∙ of_laid number p number is k) ∙ h k above below

-- up to the next one of the message nothing changes
pub laid_on : (number p n : ℕ) (is now : List Item) → now ≡ laid p number is → p ≤ n → NoneIsOf number p n now → now ≡ laid n number is
laid_on number p n is now e le h = e ∙ sym (laid_more number (n - p) p n is (omega (arith, le)) (none_laid number p p n is now e h))

pub laid_next : (number k : ℕ) (is now after : List Item) → now ≡ laid k number is → after ≡ change_at k (abandon_if_of number) now → after ≡ laid (k + 1) number is
laid_next number k is now after e step =
    let one : suc k ≡ k + 1 = omega arith in
    step ∙ (ap (λ js. change_at k (abandon_if_of number) js) e ∙ (laid_one number k is ∙ ap (λ n. laid n number is) one))

pub laid_done : (number p n : ℕ) (is now : List Item) → now ≡ laid p number is → length is ≤ n → p ≤ length is → NoneIsOf number p n now → now ≡ map (abandon_if_of number) is
laid_done number p n is now e le within h =
    laid_on number p (length is) is now e within (none_less number p n (length is) now le h) ∙ all is
  where
    all : (is : List Item) → laid (length is) number is ≡ map (abandon_if_of number) is
    all [] = refl
    all (i ∷ is) = ap (λ js. abandon_if_of number i ∷ js) (all is)

-- ---- its last fragment

pub later_here : (number k : ℕ) (found : Option FragmentTree) (is : List Item) (i : Item) → k < length is → i ≡ slice_index_or is k i → later_at number k found is ≡ cond (is_of number i) (Some (without_payload i.fragment)) found
later_here number k found [] i h at = absurd (omega (arith, h))
later_here number zero found (x ∷ is) i h at = ap (λ (y : Item). cond (is_of number y) (Some (without_payload y.fragment)) found) (sym at)
later_here number (suc k) found (x ∷ is) i h at = later_here number k found is i (omega (arith, h)) at

pub found_at : (number k : ℕ) (found : Option FragmentTree) (is : List Item) (i : Item) → k < length is → i ≡ slice_index_or is k i → is_of number i ≡ true → Some (without_payload i.fragment) ≡ later_at number k found is
found_at number k found is i h at t = sym (later_here number k found is i h at ∙ ap (λ b. cond b (Some (without_payload i.fragment)) found) t)

pub found_not : (number k : ℕ) (found : Option FragmentTree) (is : List Item) (i : Item) → k < length is → i ≡ slice_index_or is k i → is_of number i ≡ false → found ≡ later_at number k found is
found_not number k found is i h at t = sym (later_here number k found is i h at ∙ ap (λ b. cond b (Some (without_payload i.fragment)) found) t)

pub later_beyond : (number k : ℕ) (found : Option FragmentTree) (is : List Item) → length is ≤ k → later_at number k found is ≡ found
later_beyond number k found [] h = refl
later_beyond number zero found (x ∷ is) h = absurd (omega (arith, h))
later_beyond number (suc k) found (x ∷ is) h = later_beyond number k found is (omega (arith, h))

pub later_next : (number k : ℕ) (found : Option FragmentTree) (is : List Item) → later_of number (later_at number k found is) (drop (suc k) is) ≡ later_of number found (drop k is)
later_next number k found [] = none_left k
  where
    none_left : (k : ℕ) → later_of number found (drop (suc k) []) ≡ later_of number found (drop k [])
    none_left zero = refl
    none_left (suc k) = refl
later_next number zero found (i ∷ is) = refl
later_next number (suc k) found (i ∷ is) = later_next number k found is

later_past : (number k : ℕ) (found : Option FragmentTree) (is : List Item) → is_of_at number k is ≡ false → later_of number found (drop (suc k) is) ≡ later_of number found (drop k is)
later_past number zero found [] h = refl
later_past number (suc k) found [] h = refl
later_past number zero found (i ∷ is) h = ap (λ b. later_of number (cond b (Some (without_payload i.fragment)) found) is) (sym h)
later_past number (suc k) found (i ∷ is) h = later_past number k found is h

later_more : (number more p n : ℕ) (found : Option FragmentTree) (is : List Item) → n ≡ more + p → NoneIsOf number p n is → later_of number found (drop n is) ≡ later_of number found (drop p is)
later_more number zero p n found is e h =
    let same : n ≡ p = omega (arith, e) in
    ap (λ k. later_of number found (drop k is)) same
later_more number (suc more) p n found is e h =
    let is_next : n ≡ suc (more + p) = omega (arith, e) in
    ap (λ k. later_of number found (drop k is)) is_next
    ∙ (later_past number (more + p) found is (h (more + p) (omega arith) (omega (arith, e))) ∙ later_more number more p (more + p) found is refl (none_less number p n (more + p) is (omega (arith, e)) h))

pub later_on : (number p n : ℕ) (found : Option FragmentTree) (is : List Item) → p ≤ n → NoneIsOf number p n is → later_of number found (drop n is) ≡ later_of number found (drop p is)
later_on number p n found is le h = later_more number (n - p) p n found is (omega (arith, le)) h

pub later_step : (number p n : ℕ) (found next whole : Option FragmentTree) (is : List Item) → p ≤ n → NoneIsOf number p n is → next ≡ later_at number n found is → later_of number found (drop p is) ≡ whole
    → later_of number next (drop (n + 1) is) ≡ whole
later_step number p n found next whole is le h e before =
    let one : n + 1 ≡ suc n = omega arith in
    ap (λ k. later_of number next (drop k is)) one ∙ (ap (λ f. later_of number f (drop (suc n) is)) e ∙ (later_next number n found is ∙ (later_on number p n found is le h ∙ before)))

pub later_done : (number p n : ℕ) (found : Option FragmentTree) (is : List Item) → p ≤ n → length is ≤ n → NoneIsOf number p n is → found ≡ later_of number found (drop p is)
later_done number p n found is le all h = sym (ap (λ (xs : List Item). later_of number found xs) (past is n all)) ∙ later_on number p n found is le h
  where
    past : (is : List Item) (n : ℕ) → length is ≤ n → drop n is ≡ []
    past [] zero h = refl
    past [] (suc n) h = refl
    past (i ∷ is) zero h = absurd (omega (arith, h))
    past (i ∷ is) (suc n) h = past is n (omega (arith, h))

-- ---- a message of one item

pub end_here : (number k : ℕ) (is : List Item) (i : Item) → k < length is → i ≡ slice_index_or is k i → is_of number i ≡ true → i.fragment.is_end ≡ true → is_end_at number k is ≡ true
end_here number k [] i h at of ends = absurd (omega (arith, h))
end_here number zero (x ∷ is) i h at of ends = ap (λ (y : Item). is_of number y && y.fragment.is_end) (sym at) ∙ and_from (is_of number i) i.fragment.is_end of ends
end_here number (suc k) (x ∷ is) i h at of ends = end_here number k is i (omega (arith, h)) at of ends

end_parts : (number : ℕ) (i : Item) → (is_of number i && i.fragment.is_end) ≡ true → (is_of number i ≡ true) × (i.fragment.is_end ≡ true)
end_parts number i h = and_parts (is_of number i) i.fragment.is_end h

end_is_of : (number k : ℕ) (is : List Item) → is_end_at number k is ≡ true → is_of_at number k is ≡ true
end_is_of number k [] h = h
end_is_of number zero (i ∷ is) h = (end_parts number i h).0
end_is_of number (suc k) (i ∷ is) h = end_is_of number k is h

end_within : (number k : ℕ) (is : List Item) → is_end_at number k is ≡ true → k + 1 ≤ length is
end_within number k [] h = absurd (false≢true h)
end_within number zero (i ∷ is) h = omega arith
end_within number (suc k) (i ∷ is) h = omega (arith, end_within number k is h)

end_found : (number k : ℕ) (is : List Item) → is_end_at number k is ≡ true → (placeholders number (later_at number k None is) ≡ []) × (discards_of number (later_at number k None is) ≡ [])
end_found number k [] h = absurd (false≢true h)
end_found number zero (i ∷ is) h = by_parts (is_of number i) i.fragment (end_parts number i h)
  where
    by_parts : (b : Bool) (f : FragmentTree) → (b ≡ true) × (f.is_end ≡ true) → (placeholders number (cond b (Some (without_payload f)) None) ≡ []) × (discards_of number (cond b (Some (without_payload f)) None) ≡ [])
    by_parts true f h = (ap (λ e. cond e [] (placeholder number (without_payload f) ∷ [])) h.1, ap (λ e. cond e [] (record { stream = f.stream_id; number = number } ∷ [])) h.1)
    by_parts false f h = absurd (false≢true h.0)
end_found number (suc k) (i ∷ is) h = end_found number k is h

whole_last : (number k : ℕ) (is : List Item) → IsWhole number k is → later_at number k None is ≡ last_of number is
whole_last number k is whole =
    let found = later_at number k None is in
    later_done number (k + 1) (length is) found is (end_within number k is whole.ends) (omega arith) whole.behind
    ∙ later_step number 0 k None found (last_of number is) is (omega arith) whole.before refl refl

pub whole_laid : (number k : ℕ) (is : List Item) → IsWhole number k is → change_at k (λ i. abandon i) is ≡ map (abandon_if_of number) is
whole_laid number k is whole =
    let after = change_at k (abandon_if_of number) is in
    let e : after ≡ laid (k + 1) number is = laid_next number k is is after (laid_on number 0 k is is refl (omega arith) whole.before) refl in
    laid_of number k is (end_is_of number k is whole.ends)
    ∙ laid_done number (k + 1) (length is) is after e (omega arith) (end_within number k is whole.ends) (λ j above below. ap (λ js. is_of_at number j js) e ∙ (of_laid number (k + 1) number is j ∙ whole.behind j above below))

pub whole_given_up : (number k : ℕ) (s : Items) → IsWhole number k s.kept → record s { kept = change_at k (λ i. abandon i) s.kept } ≡ abandon_message number s
whole_given_up number k s whole =
    let e = whole_last number k s.kept whole in
    let found = end_found number k s.kept whole.ends in
    let none : placeholders number (last_of number s.kept) ≡ [] = ap (λ f. placeholders number f) (sym e) ∙ found.0 in
    let no : discards_of number (last_of number s.kept) ≡ [] = ap (λ f. discards_of number f) (sym e) ∙ found.1 in
    let kept : s.kept ≡ s.kept ++ placeholders number (last_of number s.kept) = sym (ap (λ js. s.kept ++ js) none ∙ append-nil s.kept) in
    let discards : s.discards ≡ s.discards ++ discards_of number (last_of number s.kept) = sym (ap (λ ds. s.discards ++ ds) no ∙ append-nil s.discards) in
    ap (λ (js : List Item). record s { kept = js }) (whole_laid number k s.kept whole ∙ ap (λ js. map (abandon_if_of number) js) kept)
    ∙ ap (λ (ds : List Discard). record s { kept = map (abandon_if_of number) (s.kept ++ placeholders number (last_of number s.kept)); discards = ds }) discards
