-- Items whose ranks rise, and linked items among them.
use Rattle.std.proofs.Common.{◌≡◌, ℕ, suc, ◌<◌, ◌≤◌, Bool, true, inl, inr, Option, Some, List, [], ◌∷◌, ◌++◌, refl, ap, sym, ◌∙◌, subst, arith}
use Rattle.std.proofs.lemmas.Bool.Decides.{nat_tests}
use Rattle.proof_protocol.specs.State.{IsAmong}
use Rattle.proof_protocol.proofs.ToolsLemmas.{among_left}
use Rattle.sctp_rx.specs.Runs.{is_next, last_of, IsLinked, flat, AreRuns}
use Rattle.sctp_fragments.proofs.RunLemmas.{linked_rises}
use Rattle.proof_refines.proofs.AmongLemmas.{around, among_right, among_cases}

module _ {A : Type 0} (rank : A → ℕ) where
  abbrev pub AllAbove : ℕ → List A → Type 0
  AllAbove n [] = Unit {0}
  AllAbove n (e ∷ es) = (n < rank e) × AllAbove n es

  abbrev pub Rising : List A → Type 0
  Rising [] = Unit {0}
  Rising (e ∷ es) = AllAbove (rank e) es × Rising es

  pub above_among : (n : ℕ) (h : A) (es : List A) → AllAbove n es → IsAmong h es → n < rank h
  above_among n h [] a b = absurd b
  above_among n h (e ∷ es) a (inl s) = subst (λ (z : A). n < rank z) (sym s) a.0
  above_among n h (e ∷ es) a (inr b) = above_among n h es a.1 b

  pub above_less : (m n : ℕ) (es : List A) → m ≤ n → AllAbove n es → AllAbove m es
  above_less m n [] l a = tt
  above_less m n (e ∷ es) l a = let b = a.0 in (omega (arith, l, b), above_less m n es l a.1)

  pub rising_back : (xs ys : List A) → Rising (xs ++ ys) → Rising ys
  rising_back [] ys r = r
  rising_back (x ∷ xs) ys r = rising_back xs ys r.1

  pub rising_two : (xs ys : List A) (g h : A) → Rising (xs ++ ys) → IsAmong g xs → IsAmong h ys → rank g < rank h
  rising_two [] ys g h r a b = absurd a
  rising_two (x ∷ xs) ys g h r (inl s) b = let c = above_among (rank x) h (xs ++ ys) r.0 (among_right h xs ys b) in subst (λ (z : A). rank z < rank h) (sym s) c
  rising_two (x ∷ xs) ys g h r (inr a) b = rising_two xs ys g h r.1 a b

  -- an item around a part, and one in it
  pub rising_apart : (xs rs ys : List A) (g h : A) → Rising (xs ++ (rs ++ ys)) → IsAmong g (xs ++ ys) → IsAmong h rs → rank g ≡ rank h → ⊥
  rising_apart xs rs ys g h r a b same =
      elim (among_cases g xs ys a) [
        | inl c ↦ let l = rising_two xs (rs ++ ys) g h r c (among_left h rs ys b) in absurd (omega (arith, l, same))
        | inr c ↦ let l = rising_two rs ys h g (rising_back xs (rs ++ ys) r) b c in absurd (omega (arith, l, same))
      ]

module _ {A : Type 0} (rank : A → ℕ) (goes : A → A → Bool) where
  pub next_rank : (e f : A) → is_next rank goes e f ≡ true → rank f ≡ suc (rank e)
  next_rank e f h = grind (arith, nat_tests)

  pub linked_above : (e : A) (es : List A) → IsLinked rank goes e es → AllAbove rank (rank e) es
  linked_above e [] h = tt
  linked_above e (f ∷ fs) h = let n = next_rank e f h.0 in (omega (arith, n), above_less rank (rank e) (rank f) fs (omega (arith, n)) (linked_above f fs h.1))

  above_linked : (n : ℕ) (e : A) (es ys : List A) → n < rank e → IsLinked rank goes e es → AllAbove rank n ys → AllAbove rank n (e ∷ (es ++ ys))
  above_linked n e [] ys l h a = (l, a)
  above_linked n e (f ∷ fs) ys l h a = let k = next_rank e f h.0 in (l, above_linked n f fs ys (omega (arith, l, k)) h.1 a)

  above_runs : (n : ℕ) (d : A) (rs : List (List A)) → AreRuns rank goes (Some d) rs → n ≤ rank d → AllAbove rank n (flat rs)
  above_runs n d [] h l = tt
  above_runs n d ([] ∷ rs) h l = absurd h
  above_runs n d ((e ∷ es) ∷ rs) h l =
      let a = h.0.0 in
      let b = linked_rises rank goes e es h.1.0 in
      above_linked n e es (flat rs) (omega (arith, l, a)) h.1.0 (above_runs n (last_of e es) rs h.1.1 (omega (arith, l, a, b)))

  rising_linked : (e : A) (es ys : List A) → IsLinked rank goes e es → AllAbove rank (rank (last_of e es)) ys → Rising rank ys → Rising rank (e ∷ (es ++ ys))
  rising_linked e [] ys h a r = (a, r)
  rising_linked e (f ∷ fs) ys h a r =
      let k = next_rank e f h.0 in
      let b = linked_rises rank goes f fs h.1 in
      (above_linked (rank e) f fs ys (omega (arith, k)) h.1 (above_less rank (rank e) (rank (last_of f fs)) ys (omega (arith, k, b)) a), rising_linked f fs ys h.1 a r)

  pub rising_runs : (before : Option A) (rs : List (List A)) → AreRuns rank goes before rs → Rising rank (flat rs)
  rising_runs before [] h = tt
  rising_runs before ([] ∷ rs) h = absurd h
  rising_runs before ((e ∷ es) ∷ rs) h = rising_linked e es (flat rs) h.1.0 (above_runs (rank (last_of e es)) (last_of e es) rs h.1.1 (omega arith)) (rising_runs (Some (last_of e es)) rs h.1.1)

  -- linked items that are all there lie side by side
  prefix : (e : A) (es rest : List A) → AllAbove rank (rank e) rest → Rising rank rest → IsLinked rank goes e es → ((h : A) → IsAmong h es → IsAmong h rest) → (ys : List A) × (rest ≡ es ++ ys)
  prefix e [] rest a r h all = (rest, refl)
  prefix e (f ∷ fs) [] a r h all = absurd (all f (inl refl))
  prefix e (f ∷ fs) (g ∷ gs) a r h all =
      let k = next_rank e f h.0 in
      let low = a.0 in
      elim (all f (inl refl)) [
        | inr b ↦ let l = above_among rank (rank g) f gs r.0 b in absurd (omega (arith, k, low, l))
        | inl s ↦
            let p = prefix f fs gs (subst (λ (z : A). AllAbove rank (rank z) gs) (sym s) r.0) r.1 h.1 (λ i b. later s i b) in
            (p.0, ap (λ (z : A). z ∷ gs) (sym s) ∙ ap (λ (t : List A). f ∷ t) p.1)
      ]
    where
      later : f ≡ g → (i : A) → IsAmong i fs → IsAmong i gs
      later s i b =
          elim (all i (inr b)) [
            | inr c ↦ c
            | inl t ↦
                let l = above_among rank (rank f) i fs (linked_above f fs h.1) b in
                let same : rank i ≡ rank f = ap rank (t ∙ sym s) in
                absurd (omega (arith, l, same))
          ]

  pub record Segment (hs rs : List A) : Type 0 where
    pub front : List A
    pub back : List A
    pub is : hs ≡ front ++ (rs ++ back)

  pub segment : (hs : List A) (e : A) (es : List A) → Rising rank hs → IsLinked rank goes e es → ((h : A) → IsAmong h (e ∷ es) → IsAmong h hs) → Segment hs (e ∷ es)
  segment hs e es r h all =
      let s = around e hs (all e (inl refl)) in
      let whole = subst (Rising rank) s.is r in
      let back = rising_back rank s.front (e ∷ s.back) whole in
      let p = prefix e es s.back back.0 back.1 h (λ i b. in_back s.front s.back s.is whole i b) in
      record { front = s.front; back = p.0; is = s.is ∙ ap (λ (t : List A). s.front ++ e ∷ t) p.1 }
    where
      in_back : (front back : List A) → hs ≡ front ++ e ∷ back → Rising rank (front ++ e ∷ back) → (i : A) → IsAmong i es → IsAmong i back
      in_back front back is whole i b =
          let l = above_among rank (rank e) i es (linked_above e es h) b in
          elim (among_cases i front (e ∷ back) (subst (IsAmong i) is (all i (inr b)))) [
            | inl c ↦ let m = rising_two rank front (e ∷ back) i e whole c (inl refl) in absurd (omega (arith, l, m))
            | inr (inl s) ↦ let same = ap rank s in absurd (omega (arith, l, same))
            | inr (inr c) ↦ c
          ]
