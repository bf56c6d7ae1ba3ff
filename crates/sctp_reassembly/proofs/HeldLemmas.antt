-- Items in the order of their ranks, as a map.
use Rattle.std.proofs.Common.{◌≡◌, ℕ, suc, ◌<◌, ◌≤◌, ◌==◌, ◌⊎◌, Bool, true, false, cond, Option, Some, None, List, [], ◌∷◌, ◌++◌, refl, ap, sym, subst, ◌∙◌, inl, inr, arith}
use Rattle.std.specs.List.{find}
use Rattle.std.proofs.lemmas.Bool.{cases_lt}
use Rattle.std.proofs.lemmas.Bool.Decides.{nat_tests}
use Rattle.sctp_fragments.specs.Runs.{is_next, last_of, IsLinked, flat, AreRuns}
use Rattle.sctp_serial.proofs.NumberLemmas.{less_differs, greater_differs}

pub is_below : (a b : ℕ) → (a == b) ≡ true → b < suc a
is_below a b h = grind (arith, nat_tests)

module _ {E : Type 0} (rank : E → ℕ) (goes : E → E → Bool) where
  abbrev at : ℕ → List E → Option E
  at n es = find (λ e. rank e == n) es

  abbrev pub RisesFrom : ℕ → List E → Type 0
  RisesFrom n [] = Unit {0}
  RisesFrom n (e ∷ es) = (n ≤ rank e) × RisesFrom (suc (rank e)) es

  pub next_rank : (e f : E) → is_next rank goes e f ≡ true → rank f ≡ suc (rank e)
  next_rank e f h = grind (arith, nat_tests)

  rises_sooner : (m n : ℕ) (es : List E) → m ≤ n → RisesFrom n es → RisesFrom m es
  rises_sooner m n [] l h = tt
  rises_sooner m n (e ∷ es) l h = (omega (arith, l, h.0), h.1)

  rises_linked : (e : E) (es rest : List E) → IsLinked rank goes e es → RisesFrom (suc (rank (last_of e es))) rest → RisesFrom (rank e) (e ∷ (es ++ rest))
  rises_linked e [] rest h k = (omega arith, k)
  rises_linked e (f ∷ fs) rest h k = (omega arith, rises_sooner (suc (rank e)) (rank f) (f ∷ (fs ++ rest)) (omega (arith, next_rank e f h.0)) (rises_linked f fs rest h.1 k))

  rises_after : (d : E) (rs : List (List E)) → AreRuns rank goes (Some d) rs → RisesFrom (suc (rank d)) (flat rs)
  rises_after d [] h = tt
  rises_after d ([] ∷ rs) h = absurd h
  rises_after d ((e ∷ es) ∷ rs) h = rises_sooner (suc (rank d)) (rank e) (e ∷ (es ++ flat rs)) (omega (arith, h.0.0)) (rises_linked e es (flat rs) h.1.0 (rises_after (last_of e es) rs h.1.1))

  pub rises : (rs : List (List E)) → AreRuns rank goes None rs → RisesFrom 0 (flat rs)
  rises [] h = tt
  rises ([] ∷ rs) h = absurd h
  rises ((e ∷ es) ∷ rs) h = rises_sooner 0 (rank e) (e ∷ (es ++ flat rs)) (omega arith) (rises_linked e es (flat rs) h.1.0 (rises_after (last_of e es) rs h.1.1))

  rises_back : (n : ℕ) (xs ys : List E) → RisesFrom n (xs ++ ys) → RisesFrom n ys
  rises_back n [] ys h = h
  rises_back n (x ∷ xs) ys h = rises_sooner n (suc (rank x)) ys (omega (arith, h.0)) (rises_back (suc (rank x)) xs ys h.1)

  rises_front : (n : ℕ) (xs ys : List E) → RisesFrom n (xs ++ ys) → RisesFrom n xs
  rises_front n [] ys h = tt
  rises_front n (x ∷ xs) ys h = (h.0, rises_front (suc (rank x)) xs ys h.1)

  pub none_before : (n m : ℕ) (es : List E) → RisesFrom n es → m < n → at m es ≡ None
  none_before n m [] h l = refl
  none_before n m (e ∷ es) h l = ap (λ (b : Bool). cond b (Some e) (at m es)) (greater_differs m (rank e) (omega (arith, h.0, l))) ∙ none_before (suc (rank e)) m es h.1 (omega (arith, h.0, l))

  abbrev pub Parted : Option E → Option E → Option E → Type 0
  Parted o k t = ((k ≡ o) × (t ≡ None)) ⊎ ((k ≡ None) × (t ≡ o))

  -- some are taken out of the middle
  pub parted : (n m : ℕ) (xs ys zs : List E) → RisesFrom n (xs ++ (ys ++ zs)) → Parted (at m (xs ++ (ys ++ zs))) (at m (xs ++ zs)) (at m ys)
  parted n m [] [] zs h = inl (refl, refl)
  parted n m [] (y ∷ ys) zs h = go (rank y == m) refl (parted (suc (rank y)) m [] ys zs h.1)
    where
      go : (b : Bool) → (rank y == m) ≡ b → Parted (at m (ys ++ zs)) (at m zs) (at m ys) → Parted (cond b (Some y) (at m (ys ++ zs))) (at m zs) (cond b (Some y) (at m ys))
      go true here rest = inr (none_before (suc (rank y)) m zs (rises_back (suc (rank y)) ys zs h.1) (is_below (rank y) m here), refl)
      go false apart rest = rest
  parted n m (x ∷ xs) ys zs h = go (rank x == m) refl (parted (suc (rank x)) m xs ys zs h.1)
    where
      go : (b : Bool) → (rank x == m) ≡ b → Parted (at m (xs ++ (ys ++ zs))) (at m (xs ++ zs)) (at m ys) → Parted (cond b (Some x) (at m (xs ++ (ys ++ zs)))) (cond b (Some x) (at m (xs ++ zs))) (at m ys)
      go true here rest = inl (refl, none_before (suc (rank x)) m ys (rises_front (suc (rank x)) ys zs (rises_back (suc (rank x)) xs (ys ++ zs) h.1)) (is_below (rank x) m here))
      go false apart rest = rest

  at_front_none : (m : ℕ) (xs ys : List E) → at m xs ≡ None → at m (xs ++ ys) ≡ at m ys
  at_front_none m [] ys h = refl
  at_front_none m (x ∷ xs) ys h = go (rank x == m) h (at_front_none m xs ys)
    where
      go : (b : Bool) → cond b (Some x) (at m xs) ≡ None → (at m xs ≡ None → at m (xs ++ ys) ≡ at m ys) → cond b (Some x) (at m (xs ++ ys)) ≡ at m ys
      go true h rest = absurd (cc)
      go false h rest = rest h

  at_back_none : (m : ℕ) (xs ys : List E) → at m ys ≡ None → at m (xs ++ ys) ≡ at m xs
  at_back_none m [] ys h = h
  at_back_none m (x ∷ xs) ys h = ap (λ (o : Option E). cond (rank x == m) (Some x) o) (at_back_none m xs ys h)

  -- some are taken, and then more
  pub parted_twice : (m : ℕ) (old mid new : Option E) (xs ys : List E) → Parted old mid (at m xs) → Parted mid new (at m ys) → Parted old new (at m (xs ++ ys))
  parted_twice m old mid new xs ys (inl p) (inl q) = inl (q.0 ∙ p.0, at_front_none m xs ys p.1 ∙ q.1)
  parted_twice m old mid new xs ys (inl p) (inr q) = inr (q.0, at_front_none m xs ys p.1 ∙ (q.1 ∙ p.0))
  parted_twice m old mid new xs ys (inr p) (inl q) = inr (q.0 ∙ p.0, at_back_none m xs ys q.1 ∙ p.1)
  parted_twice m old mid new xs ys (inr p) (inr q) = inr (q.0, at_back_none m xs ys (q.1 ∙ p.0) ∙ p.1)

  -- items with one rank after the other, all of which are there, are side by side
  abbrev AreAt : List E → List E → Type 0
  AreAt es [] = Unit {0}
  AreAt es (x ∷ xs) = (at (rank x) es ≡ Some x) × AreAt es xs

  pub record Inside (xs es : List E) : Type 0 where
    pub front : List E
    pub back : List E
    pub split : es ≡ front ++ (xs ++ back)

  pub record Leading (xs es : List E) : Type 0 where
    pub back : List E
    pub split : es ≡ xs ++ back

  -- without the first item, whose rank is below
  are_later : (e : E) (es : List E) (f : E) (fs : List E) → IsLinked rank goes f fs → rank e ≤ rank f → AreAt (e ∷ es) fs → AreAt es fs
  are_later e es f [] h l k = tt
  are_later e es f (g ∷ gs) h l k =
      (sym (ap (λ (b : Bool). cond b (Some e) (at (rank g) es)) (less_differs (rank e) (rank g) (omega (arith, l, next_rank f g h.0)))) ∙ k.0, are_later e es g gs h.1 (omega (arith, l, next_rank f g h.0)) k.1)

  leading : (e : E) (fs es : List E) → RisesFrom (suc (rank e)) es → IsLinked rank goes e fs → AreAt es fs → Leading fs es
  leading e [] es h l k = record { back = es; split = refl }
  leading e (f ∷ fs) [] h l k = absurd (cc)
  leading e (f ∷ fs) (d ∷ es) h l k = go (rank d == rank f) refl k.0 (leading f fs es)
    where
      go : (b : Bool) → (rank d == rank f) ≡ b → cond b (Some d) (at (rank f) es) ≡ Some f → (RisesFrom (suc (rank f)) es → IsLinked rank goes f fs → AreAt es fs → Leading fs es) → Leading (f ∷ fs) (d ∷ es)
      go true here is rest =
          let same : d ≡ f = cc in
          let t = rest (subst (λ (x : E). RisesFrom (suc (rank x)) es) same h.1) l.1 (are_later d es f fs l.1 (omega (arith, ap rank same)) k.1) in
          record { back = t.back; split = ap (λ (x : E). x ∷ es) same ∙ ap (λ (x : List E). f ∷ x) t.split }
      go false apart is rest =
          let none = none_before (suc (rank d)) (rank f) es h.1 (omega (arith, h.0, next_rank e f l.0)) in
          absurd (cc)

  pub inside : (n : ℕ) (e : E) (fs es : List E) → RisesFrom n es → IsLinked rank goes e fs → AreAt es (e ∷ fs) → Inside (e ∷ fs) es
  inside n e fs [] h l k = absurd (cc)
  inside n e fs (d ∷ es) h l k = go (rank d == rank e) refl k.0 (inside (suc (rank d)) e fs es h.1 l)
    where
      go : (b : Bool) → (rank d == rank e) ≡ b → cond b (Some d) (at (rank e) es) ≡ Some e → (AreAt es (e ∷ fs) → Inside (e ∷ fs) es) → Inside (e ∷ fs) (d ∷ es)
      go true here is rest =
          let same : d ≡ e = cc in
          let t = leading e fs es (subst (λ (x : E). RisesFrom (suc (rank x)) es) same h.1) l (are_later d es e fs l (omega (arith, ap rank same)) k.1) in
          record { front = []; back = t.back; split = ap (λ (x : E). x ∷ es) same ∙ ap (λ (x : List E). e ∷ x) t.split }
      go false apart is rest =
          elim (cases_lt (rank d) (rank e)) [
            | inl below ↦
                let t = rest (is, are_later d es e fs l (omega (arith, below)) k.1) in
                record { front = d ∷ t.front; back = t.back; split = ap (λ (x : List E). d ∷ x) t.split }
            | inr from ↦
                let none = none_before (suc (rank d)) (rank e) es h.1 (omega (arith, from)) in
                absurd (cc)
          ]
