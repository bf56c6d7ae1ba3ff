-- What two ascending lists have in common.
use Rattle.std.proofs.Common.{◌≡◌, ℕ, ◌<◌, ◌≤◌, Bool, true, false, cond, List, [], ◌∷◌, Some, None, refl, ap, sym, ◌∙◌, arith, Less, Equal, Greater}
use Rattle.std.specs.Prelude.{filter, is_some, ◌||◌}
use Rattle.std.specs.List.Sorted.{IsStrictlySortedBy}
use Rattle.std.specs.Map.{lookup, keys_of}
use Rattle.std.specs.Ordering.{nat_cmp}
use Rattle.std.specs.declared.cmp.Ordering.{Ordering}
use Rattle.std.specs.BTreeMap.{is_at}
use Rattle.std.proofs.lemmas.Bool.Decides.{nat_tests}
use Rattle.sctp_serial.proofs.NumberLemmas.{is_less, is_greater, is_equal, same_at, at_itself}
use Rattle.sctp_tx_queue.specs.Restarted.{is_among, may_differ}

-- a key of the entries
pub there_among : {X : Type 0} (k : ℕ) (es : List (ℕ × X)) → is_some (lookup (is_at (nat_cmp k)) es) ≡ is_among k (keys_of es)
there_among k [] = refl
there_among k (e ∷ es) = go (is_at (nat_cmp k) e.0) (there_among k es)
  where
    go : (b : Bool) → is_some (lookup (is_at (nat_cmp k)) es) ≡ is_among k (keys_of es) → is_some (cond b (Some e.1) (lookup (is_at (nat_cmp k)) es)) ≡ (b || is_among k (keys_of es))
    go true h = refl
    go false h = h

-- tests that agree on a list
pub filter_same : (f g : ℕ → Bool) (xs : List ℕ) → ((k : ℕ) → is_among k xs ≡ true → f k ≡ g k) → filter f xs ≡ filter g xs
filter_same f g [] h = refl
filter_same f g (x ∷ xs) h =
    ap (λ t. cond t (x ∷ filter f xs) (filter f xs)) (h x (ap (λ t. t || is_among x xs) (at_itself x)))
    ∙ ap (λ (ys : List ℕ). cond (g x) (x ∷ ys) ys) (filter_same f g xs (λ k e. h k (later k e (is_at (nat_cmp k) x))))
  where
    later : (k : ℕ) → is_among k xs ≡ true → (b : Bool) → (b || is_among k xs) ≡ true
    later k e true = refl
    later k e false = e

filter_none : (xs : List ℕ) → filter (λ k. false) xs ≡ []
filter_none [] = refl
filter_none (x ∷ xs) = filter_none xs

filter_all : (xs : List ℕ) → filter (λ k. true) xs ≡ xs
filter_all [] = refl
filter_all (x ∷ xs) = ap (λ (ys : List ℕ). x ∷ ys) (filter_all xs)

tail_sorted : (m : ℕ) (ks : List ℕ) → IsStrictlySortedBy nat_cmp (m ∷ ks) → IsStrictlySortedBy nat_cmp ks
unfolding IsStrictlySortedBy
tail_sorted m [] s = tt
tail_sorted m (k ∷ ks) s = s.1

above : (m k : ℕ) (ks : List ℕ) → IsStrictlySortedBy nat_cmp (m ∷ ks) → is_among k ks ≡ true → m < k
unfolding IsStrictlySortedBy
above m k [] s h = absurd (cc)
above m k (x ∷ xs) s h = go (is_at (nat_cmp k) x) refl h (λ g. above x k xs s.1 g)
  where
    first : m < x
    first = is_less m x s.0.0

    go : (b : Bool) → is_at (nat_cmp k) x ≡ b → (b || is_among k xs) ≡ true → (is_among k xs ≡ true → x < k) → m < k
    go true e h ih = omega (arith, first, same_at k x e)
    go false e h ih = omega (arith, first, ih h)

-- a lesser one isn't among them
absent : (x y : ℕ) (ys : List ℕ) → IsStrictlySortedBy nat_cmp (y ∷ ys) → x < y → is_among x (y ∷ ys) ≡ false
absent x y ys s l = go (is_at (nat_cmp x) y) refl (is_among x ys) refl
  where
    go : (b : Bool) → is_at (nat_cmp x) y ≡ b → (c : Bool) → is_among x ys ≡ c → (b || c) ≡ false
    go true e c f = absurd (omega (arith, l, same_at x y e))
    go false e true f = absurd (omega (arith, l, above y x ys s f))
    go false e false f = refl

-- one that is greater than the first is among the others
behind : (k x : ℕ) (xs : List ℕ) → x < k → is_among k (x ∷ xs) ≡ is_among k xs
behind k x xs l = ap (λ t. t || is_among k xs) differs
  where
    differs : is_at (nat_cmp k) x ≡ false
    differs = grind (arith, nat_tests)

at_least : (y k : ℕ) (ys : List ℕ) → IsStrictlySortedBy nat_cmp (y ∷ ys) → is_among k (y ∷ ys) ≡ true → y ≤ k
at_least y k ys s h = go (is_at (nat_cmp k) y) refl h
  where
    go : (b : Bool) → is_at (nat_cmp k) y ≡ b → (b || is_among k ys) ≡ true → y ≤ k
    go true e h = omega (arith, same_at k y e)
    go false e h = omega (arith, above y k ys s h)

pub common : (xs ys : List ℕ) → IsStrictlySortedBy nat_cmp xs → IsStrictlySortedBy nat_cmp ys → filter (λ k. is_among k ys) xs ≡ filter (λ k. is_among k xs) ys
common [] ys s t = sym (filter_none ys)
common (x ∷ xs) [] s t = filter_none (x ∷ xs)
common (x ∷ xs) (y ∷ ys) s t = go (nat_cmp x y) refl (common xs (y ∷ ys) (tail_sorted x xs s) t) (common xs ys (tail_sorted x xs s) (tail_sorted y ys t)) (common (x ∷ xs) ys s (tail_sorted y ys t))
  where
    left : ℕ → Bool
    left k = is_among k (x ∷ xs)

    right : ℕ → Bool
    right k = is_among k (y ∷ ys)

    go : (o : Ordering) → nat_cmp x y ≡ o → filter (λ k. is_among k (y ∷ ys)) xs ≡ filter (λ k. is_among k xs) (y ∷ ys) → filter (λ k. is_among k ys) xs ≡ filter (λ k. is_among k xs) ys
        → filter (λ k. is_among k ys) (x ∷ xs) ≡ filter (λ k. is_among k (x ∷ xs)) ys → filter (λ k. is_among k (y ∷ ys)) (x ∷ xs) ≡ filter (λ k. is_among k (x ∷ xs)) (y ∷ ys)
    go Less e less same more =
        let l : x < y = is_less x y e in
        ap (λ b. cond b (x ∷ filter right xs) (filter right xs)) (absent x y ys t l)
        ∙ less
        ∙ filter_same (λ k. is_among k xs) left (y ∷ ys) (λ k h. sym (behind k x xs (omega (arith, l, at_least y k ys t h))))
    go Equal e less same more =
        let q : y ≡ x = is_equal x y e in
        let here : right x ≡ true = ap (λ k. is_at (nat_cmp x) k || is_among x ys) q ∙ ap (λ b. b || is_among x ys) (at_itself x) in
        let there : left y ≡ true = ap (λ k. is_at (nat_cmp k) x || is_among k xs) q ∙ ap (λ b. b || is_among x xs) (at_itself x) in
        ap (λ b. cond b (x ∷ filter right xs) (filter right xs)) here
        ∙ ap (λ (zs : List ℕ). x ∷ zs) (filter_same right (λ k. is_among k ys) xs (λ k h. behind k y ys (omega (arith, q, above x k xs s h))) ∙ same ∙ filter_same (λ k. is_among k xs) left ys (λ k h. sym (behind k x xs (omega (arith, q, above y k ys t h)))))
        ∙ ap (λ k. k ∷ filter left ys) (sym q)
        ∙ sym (ap (λ b. cond b (y ∷ filter left ys) (filter left ys)) there)
    go Greater e less same more =
        let l : y < x = is_greater x y e in
        sym (filter_same (λ k. is_among k ys) right (x ∷ xs) (λ k h. sym (behind k y ys (omega (arith, l, at_least x k xs s h)))))
        ∙ more
        ∙ sym (ap (λ b. cond b (y ∷ filter left ys) (filter left ys)) (absent y x xs s l))

-- those of the entries that may have changed
pub those_present : {X : Type 0} (ids : List ℕ) (es : List (ℕ × X)) → IsStrictlySortedBy nat_cmp ids → IsStrictlySortedBy nat_cmp (keys_of es)
    → filter (λ k. is_some (lookup (is_at (nat_cmp k)) es)) ids ≡ filter (may_differ (Some ids)) (keys_of es)
those_present ids es s t = filter_same (λ k. is_some (lookup (is_at (nat_cmp k)) es)) (λ k. is_among k (keys_of es)) ids (λ k h. there_among k es) ∙ sym (common (keys_of es) ids t s)

pub all_of : (ks : List ℕ) → ks ≡ filter (may_differ None) ks
all_of ks = sym (filter_all ks)
