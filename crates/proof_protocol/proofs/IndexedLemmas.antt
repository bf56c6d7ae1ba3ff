-- The fragments of each message are counted from 0.
use Rattle.std.proofs.Common.{◌≡◌, ◌≢◌, ℕ, zero, suc, ◌<◌, ◌≤◌, true, false, cond, inl, inr, List, [], ◌∷◌, ◌++◌, length, refl, sym, ap, ◌∙◌, subst, arith, eqb, length-append}
use Rattle.std.proofs.lemmas.Bool.{cases_eq, cases_lt, eq-eqb, ne_eqb, cond-true, cond-false, cases_order}
use Rattle.std.proofs.lemmas.List.{get_or_append_left, get_or_push}
use Rattle.proof_protocol.specs.State.{Fragment, blank, gather, parts, Sender, count, place_of, fragment}
use Rattle.proof_protocol.specs.Reassembly.{concatenation}
use Rattle.proof_protocol.specs.Invariant.{at, IsIndexed}
use Rattle.proof_protocol.proofs.ToolsLemmas.{at_push, each_push, pairs_push, gathered_push, gathered_off}

pub joined_same : (f g : ℕ → List ℕ) (n : ℕ) → ((j : ℕ) → j < n → f j ≡ g j) → concatenation f n ≡ concatenation g n
joined_same f g zero h = refl
joined_same f g (suc n) h =
    ap (λ z. z ++ f n) (joined_same f g n (λ j l. h j (omega (arith, l)))) ∙ ap (λ z. concatenation g n ++ z) (h n (omega arith))

pub parts_push : (p : ℕ) (fs : List Fragment) (f : Fragment) → f.place ≡ p → parts p (fs ++ f ∷ []) ≡ suc (parts p fs)
parts_push p [] f e = cond-true (eqb f.place p) 1 0 (eq-eqb f.place p e)
parts_push p (g ∷ fs) f e =
    let ih = parts_push p fs f e in
    elim (eqb g.place p) as (λ b. cond b (suc (parts p (fs ++ f ∷ []))) (parts p (fs ++ f ∷ [])) ≡ suc (cond b (suc (parts p fs)) (parts p fs))) [ true ↦ ap suc ih | false ↦ ih ]

pub parts_off : (p : ℕ) (fs : List Fragment) (f : Fragment) → f.place ≢ p → parts p (fs ++ f ∷ []) ≡ parts p fs
parts_off p [] f e = cond-false (eqb f.place p) 1 0 (ne_eqb f.place p e)
parts_off p (g ∷ fs) f e =
    let ih = parts_off p fs f e in
    elim (eqb g.place p) as (λ b. cond b (suc (parts p (fs ++ f ∷ []))) (parts p (fs ++ f ∷ [])) ≡ cond b (suc (parts p fs)) (parts p fs)) [ true ↦ ap suc ih | false ↦ ih ]

pub indexed_none : IsIndexed []
indexed_none = record {
  index_below = λ t h. absurd (omega arith);
  index_found = λ p j h. absurd (omega arith);
  index_rises = λ t u l h. absurd (omega arith);
  joins = λ p ts h. refl;
}

module _ (fs : List Fragment) (x : IsIndexed fs) (f : Fragment) (counted : f.index ≡ parts f.place fs) where
  abbrev more : List Fragment
  more = fs ++ f ∷ []

  old : (t : ℕ) → t < length fs → at more t ≡ at fs t
  old t h = get_or_append_left fs (f ∷ []) blank t h

  fresh : at more (length fs) ≡ f
  fresh = get_or_push fs f blank (length fs) refl

  longer : length more ≡ suc (length fs)
  longer = omega (arith, length-append fs (f ∷ []))

  parts_up : (p : ℕ) → parts p fs ≤ parts p more
  parts_up p =
      elim (cases_eq f.place p) [
        | inl e ↦ let a = parts_push p fs f e in omega (arith, a)
        | inr d ↦ let a = parts_off p fs f d in omega (arith, a)
      ]

  found_old : (p j : ℕ) → j < parts p fs → (t : ℕ) × (t < length more) × ((at more t).place ≡ p) × ((at more t).index ≡ j)
  found_old p j h =
      let y = x.index_found p j h in
      let l = y.1 in
      (y.0, omega (arith, l, longer), ap (λ z. z.place) (old y.0 y.1) ∙ y.2, ap (λ z. z.index) (old y.0 y.1) ∙ y.3)

  index_found : (p j : ℕ) → j < parts p more → (t : ℕ) × (t < length more) × ((at more t).place ≡ p) × ((at more t).index ≡ j)
  index_found p j h =
      elim (cases_eq f.place p) [
        | inr d ↦ found_old p j (subst (λ z. j < z) (parts_off p fs f d) h)
        | inl e ↦
            elim (cases_lt j (parts p fs)) [
              | inl l ↦ found_old p j l
              | inr g ↦
                  let a = parts_push p fs f e in
                  let n : f.index ≡ j = (let b = counted ∙ ap (λ z. parts z fs) e in omega (arith, a, b, g, h)) in
                  (length fs, omega (arith, longer), ap (λ z. z.place) fresh ∙ e, ap (λ z. z.index) fresh ∙ n)
            ]
      ]

  joins : (p : ℕ) (ts : ℕ → ℕ) → ((j : ℕ) → j < parts p more → (ts j < length more) × ((at more (ts j)).place ≡ p) × ((at more (ts j)).index ≡ j))
      → gather p more ≡ concatenation (λ j. (at more (ts j)).payload) (parts p more)
  joins p ts h =
      let older : ((j : ℕ) → j < parts p fs → (ts j < length fs) × ((at fs (ts j)).place ≡ p) × ((at fs (ts j)).index ≡ j)) =
      (λ j l.
      let up = parts_up p in
      let y = h j (omega (arith, l, up)) in
      elim (at_push fs f blank (ts j) y.0) [
        | inl a ↦ (a.0, sym (ap (λ z. z.place) a.1) ∙ y.1, sym (ap (λ z. z.index) a.1) ∙ y.2)
        | inr a ↦
            let e : f.place ≡ p = sym (ap (λ z. z.place) a.1) ∙ y.1 in
            let n : f.index ≡ j = sym (ap (λ z. z.index) a.1) ∙ y.2 in
            let b = counted ∙ ap (λ z. parts z fs) e in
            absurd (omega (arith, l, n, b))
      ]) in
      let same : concatenation (λ j. (at more (ts j)).payload) (parts p fs) ≡ concatenation (λ j. (at fs (ts j)).payload) (parts p fs) =
      joined_same (λ j. (at more (ts j)).payload) (λ j. (at fs (ts j)).payload) (parts p fs) (λ j l. ap (λ z. z.payload) (old (ts j) (older j l).0)) in
      let before = x.joins p ts older ∙ sym same in
      elim (cases_eq f.place p) [
        | inr d ↦
            gathered_off p fs f d ∙ (before ∙ ap (concatenation (λ j. (at more (ts j)).payload)) (sym (parts_off p fs f d)))
        | inl e ↦
            let a = parts_push p fs f e in
            let y = h (parts p fs) (omega (arith, a)) in
            let here : (at more (ts (parts p fs))).payload ≡ f.payload =
            elim (at_push fs f blank (ts (parts p fs)) y.0) [
              | inr b ↦ ap (λ z. z.payload) b.1
              | inl b ↦
                  let q = sym (ap (λ z. z.place) b.1) ∙ y.1 in
                  let n = sym (ap (λ z. z.index) b.1) ∙ y.2 in
                  let l = subst (λ z. (at fs (ts (parts p fs))).index < parts z fs) q (x.index_below (ts (parts p fs)) b.0) in
                  absurd (omega (arith, n, l))
            ] in
            gathered_push p fs f e ∙ (ap (λ z. z ++ f.payload) before ∙ (ap (λ z. concatenation (λ j. (at more (ts j)).payload) (parts p fs) ++ z) (sym here)
            ∙ ap (concatenation (λ j. (at more (ts j)).payload)) (sym a)))
      ]

  pub indexed_push : IsIndexed more
  indexed_push = record {
    index_below = each_push blank (λ t z. z.index < parts z.place more) fs f
        (λ t h. let a = x.index_below t h in let b = parts_up (at fs t).place in omega (arith, a, b))
        (let a = parts_push f.place fs f refl in omega (arith, a, counted));
    index_found = index_found;
    index_rises = pairs_push blank (λ y z. y.place ≡ z.place → y.index < z.index) fs f x.index_rises
        (λ t h e. let a = subst (λ z. (at fs t).index < parts z fs) e (x.index_below t h) in omega (arith, a, counted));
    joins = joins;
  }

-- an index belongs to one fragment of a message
pub one_index : (o : Sender) → IsIndexed o.numbered → (t u : ℕ) → t < count o → u < count o → place_of o t ≡ place_of o u → (fragment o t).index ≡ (fragment o u).index → t ≡ u
one_index o x t u ht hu e n =
    elim (cases_order t u) [
      | inl s ↦ s
      | inr (inl l) ↦ let a = x.index_rises t u l hu e in absurd (omega (arith, a, n))
      | inr (inr g) ↦ let a = x.index_rises u t g ht (sym e) in absurd (omega (arith, a, n))
    ]
