-- A map of all numbers, one to one, made of pairs.
use Rattle.std.proofs.Common.{◌≡◌, ◌≢◌, ℕ, ◌==◌, Bool, cond, List, [], ◌∷◌, inl, inr, refl, sym, ap, ◌∙◌}
use Rattle.std.proofs.lemmas.Bool.{cases_eq, eq-eqb, ne_eqb}
use Rattle.proof_draws.specs.Renamed.{swap, rename, DiffersFrom, AreApart, IsPaired, Renames}

-- ---- two numbers that change places

swap_first : (a b : ℕ) → swap a b a ≡ b
swap_first a b = ap (λ (t : Bool). cond t b (cond (a == b) a a)) (eq-eqb a a refl)

swap_other : (a b x : ℕ) → x ≢ a → x ≢ b → swap a b x ≡ x
swap_other a b x d e = ap (λ (t : Bool). cond t b (cond (x == b) a x)) (ne_eqb x a d) ∙ ap (λ (t : Bool). cond t a x) (ne_eqb x b e)

swap_second : (a b : ℕ) → swap a b b ≡ a
swap_second a b =
    elim (cases_eq b a) [
      | inl e ↦ ap (λ (t : Bool). cond t b (cond (b == b) a b)) (eq-eqb b a e) ∙ e
      | inr d ↦ ap (λ (t : Bool). cond t b (cond (b == b) a b)) (ne_eqb b a d) ∙ ap (λ (t : Bool). cond t a b) (eq-eqb b b refl)
    ]

-- twice is as never
swap_twice : (a b x : ℕ) → swap a b (swap a b x) ≡ x
swap_twice a b x =
    elim (cases_eq x a) [
      | inl e ↦ ap (λ (y : ℕ). swap a b (swap a b y)) e ∙ (ap (λ (y : ℕ). swap a b y) (swap_first a b) ∙ (swap_second a b ∙ sym e))
      | inr d ↦ elim (cases_eq x b) [
        | inl e ↦ ap (λ (y : ℕ). swap a b (swap a b y)) e ∙ (ap (λ (y : ℕ). swap a b y) (swap_second a b) ∙ (swap_first a b ∙ sym e))
        | inr f ↦ ap (λ (y : ℕ). swap a b y) (swap_other a b x d f) ∙ swap_other a b x d f
      ]
    ]

-- what can be undone keeps numbers apart
test_same : (f g : ℕ → ℕ) → ((x : ℕ) → g (f x) ≡ x) → (a b : ℕ) → (f a == f b) ≡ (a == b)
test_same f g back a b =
    elim (cases_eq a b) [
      | inl e ↦ eq-eqb (f a) (f b) (ap f e) ∙ sym (eq-eqb a b e)
      | inr d ↦ ne_eqb (f a) (f b) (λ e. d (sym (back a) ∙ (ap g e ∙ back b))) ∙ sym (ne_eqb a b d)
    ]

-- ---- all pairs

-- back again
abbrev undone : List (ℕ × ℕ) → ℕ → ℕ
undone [] x = x
undone (p ∷ ps) x = undone ps (swap (rename ps p.0) p.1 x)

undone_is : (ps : List (ℕ × ℕ)) (x : ℕ) → undone ps (rename ps x) ≡ x
undone_is [] x = refl
undone_is (p ∷ ps) x = ap (λ (y : ℕ). undone ps y) (swap_twice (rename ps p.0) p.1 (rename ps x)) ∙ undone_is ps x

one_of : (ps : List (ℕ × ℕ)) (a b : ℕ) → rename ps a ≡ rename ps b → a ≡ b
one_of ps a b e = sym (undone_is ps a) ∙ (ap (λ (y : ℕ). undone ps y) e ∙ undone_is ps b)

none_is : (ps : List (ℕ × ℕ)) → AreApart ps → rename ps 0 ≡ 0
none_is [] h = refl
none_is (p ∷ ps) h =
    let rest : rename ps 0 ≡ 0 = none_is ps h.3 in
    ap (λ (y : ℕ). swap (rename ps p.0) p.1 y) rest
    ∙ swap_other (rename ps p.0) p.1 0 (λ e. h.0 (one_of ps p.0 0 (sym e ∙ sym rest))) (λ e. h.1 (sym e))

differs_at : (tag name : ℕ) (ps : List (ℕ × ℕ)) → DiffersFrom tag name ps → (t m : ℕ) → IsPaired t m ps → (tag ≢ t) × (name ≢ m)
differs_at tag name [] h t m k = absurd k
differs_at tag name (p ∷ ps) h t m (inl k) = (λ e. h.0 (e ∙ k.0), λ e. h.1 (e ∙ k.1))
differs_at tag name (p ∷ ps) h t m (inr k) = differs_at tag name ps h.2 t m k

pairs_are : (ps : List (ℕ × ℕ)) → AreApart ps → (tag name : ℕ) → IsPaired tag name ps → rename ps tag ≡ name
pairs_are [] h tag name k = absurd k
pairs_are (p ∷ ps) h tag name (inl k) =
    ap (λ (y : ℕ). swap (rename ps p.0) p.1 (rename ps y)) k.0 ∙ (swap_first (rename ps p.0) p.1 ∙ sym k.1)
pairs_are (p ∷ ps) h tag name (inr k) =
    let rest : rename ps tag ≡ name = pairs_are ps h.3 tag name k in
    let other = differs_at p.0 p.1 ps h.2 tag name k in
    ap (λ (y : ℕ). swap (rename ps p.0) p.1 y) rest
    ∙ swap_other (rename ps p.0) p.1 name (λ e. other.0 (one_of ps p.0 tag (sym e ∙ sym rest))) (λ e. other.1 (sym e))

pub renames : (ps : List (ℕ × ℕ)) → AreApart ps → Renames ps
renames ps h = record { apart = test_same (rename ps) (undone ps) (undone_is ps); none = none_is ps h; pairs = pairs_are ps h }
