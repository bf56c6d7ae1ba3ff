-- Functions changed at one number, tests, and a list with one more element.
use Rattle.std.proofs.Common.{◌≡◌, ◌≢◌, ℕ, zero, suc, max, ◌<◌, ◌≤◌, Bool, true, false, cond, ◌&&◌, ◌⊎◌, inl, inr, List, [], ◌∷◌, ◌++◌, length, get_or, refl, sym, ap, ◌∙◌, subst, arith, eqb, leb, length-append, append-nil, append_assoc}
use Rattle.std.proofs.lemmas.Bool.{cases_eq, cases_lt, eq-eqb, ne_eqb, cond-true, cond-false, or_cases, or_left, or_right, and_parts, and_from, leb-true, le-leb, cases_Bool}
use Rattle.std.proofs.lemmas.Bool.Decides.{nat_tests}
use Rattle.std.proofs.lemmas.List.{get_or_append_left, get_or_push}
use Rattle.proof_protocol.specs.State.{put, has, Entry, Fragment, gather, IsAmong}
use Rattle.proof_protocol.specs.Rules.{same, covers, raise}

pub put_at : {A : Type 0} (f : ℕ → A) (k : ℕ) (v : A) (n : ℕ) → n ≡ k → put f k v n ≡ v
put_at f k v n e = cond-true (eqb n k) v (f n) (eq-eqb n k e)

pub put_off : {A : Type 0} (f : ℕ → A) (k : ℕ) (v : A) (n : ℕ) → n ≢ k → put f k v n ≡ f n
put_off f k v n e = cond-false (eqb n k) v (f n) (ne_eqb n k e)

pub put_true : (f : ℕ → Bool) (k n : ℕ) → put f k true n ≡ true → (n ≡ k) ⊎ (f n ≡ true)
put_true f k n h = elim (cases_eq n k) [ inl e ↦ inl e | inr d ↦ inr (sym (put_off f k true n d) ∙ h) ]

pub put_keeps : (f : ℕ → Bool) (k n : ℕ) → f n ≡ true → put f k true n ≡ true
put_keeps f k n h = elim (cases_eq n k) [ inl e ↦ put_at f k true n e | inr d ↦ put_off f k true n d ∙ h ]

pub not_both : {b : Bool} → b ≡ true → b ≡ false → ⊥
not_both p q = cc

pub same_is : (a b : Bool) → same a b ≡ true → a ≡ b
same_is true b h = sym h
same_is false true h = cc
same_is false false h = refl

pub same_self : (a b : Bool) → a ≡ b → same a b ≡ true
same_self true b e = sym e
same_self false true e = cc
same_self false false e = refl

-- an element of a list that has one more
pub at_push : {X : Type 0} (xs : List X) (y d : X) (t : ℕ) → t < length (xs ++ y ∷ [])
    → ((t < length xs) × (get_or (xs ++ y ∷ []) t d ≡ get_or xs t d)) ⊎ ((t ≡ length xs) × (get_or (xs ++ y ∷ []) t d ≡ y))
at_push xs y d t h =
    elim (cases_lt t (length xs)) [
      | inl l ↦ inl (l, get_or_append_left xs (y ∷ []) d t l)
      | inr g ↦ let e : t ≡ length xs = omega (arith, length-append xs (y ∷ [])) in inr (e, get_or_push xs y d t (sym e))
    ]

-- what holds of each element holds after a push
pub each_push : {X : Type 0} (d : X) (P : ℕ → X → Type 0) (xs : List X) (y : X)
    → ((t : ℕ) → t < length xs → P t (get_or xs t d)) → P (length xs) y
    → (t : ℕ) → t < length (xs ++ y ∷ []) → P t (get_or (xs ++ y ∷ []) t d)
each_push d P xs y old new t h =
    elim (at_push xs y d t h) [
      | inl a ↦ subst (λ z. P t z) (sym a.1) (old t a.0)
      | inr a ↦ subst (λ z. P t z) (sym a.1) (subst (λ n. P n y) (sym a.0) new)
    ]

-- the same for each two, the first below the second
pub pairs_push : {X : Type 0} (d : X) (R : X → X → Type 0) (xs : List X) (y : X)
    → ((t u : ℕ) → t < u → u < length xs → R (get_or xs t d) (get_or xs u d))
    → ((t : ℕ) → t < length xs → R (get_or xs t d) y)
    → (t u : ℕ) → t < u → u < length (xs ++ y ∷ []) → R (get_or (xs ++ y ∷ []) t d) (get_or (xs ++ y ∷ []) u d)
pairs_push d R xs y old new t u l h =
    elim (at_push xs y d u h) [
      | inl a ↦
          let e = get_or_append_left xs (y ∷ []) d t (omega (arith, l, a.0)) in
          subst (λ z. R z (get_or (xs ++ y ∷ []) u d)) (sym e) (subst (λ z. R (get_or xs t d) z) (sym a.1) (old t u l a.0))
      | inr a ↦
          let lt : t < length xs = omega (arith, l, a.0) in
          let e = get_or_append_left xs (y ∷ []) d t lt in
          subst (λ z. R z (get_or (xs ++ y ∷ []) u d)) (sym e) (subst (λ z. R (get_or xs t d) z) (sym a.1) (new t lt))
    ]

pub has_push : (p : ℕ) (qs : List ℕ) (q : ℕ) → has p (qs ++ q ∷ []) ≡ true → (has p qs ≡ true) ⊎ (p ≡ q)
has_push p [] q h = grind (arith, nat_tests)
has_push p (r ∷ qs) q h =
    elim (or_cases (eqb p r) (has p (qs ++ q ∷ [])) h) [
      | inl a ↦ inl (or_left (eqb p r) (has p qs) a)
      | inr a ↦ elim (has_push p qs q a) [ inl b ↦ inl (or_right (eqb p r) (has p qs) b) | inr e ↦ inr e ]
    ]

pub has_keeps : (p : ℕ) (qs rs : List ℕ) → has p qs ≡ true → has p (qs ++ rs) ≡ true
has_keeps p [] rs h = cc
has_keeps p (r ∷ qs) rs h =
    elim (or_cases (eqb p r) (has p qs) h) [
      | inl a ↦ or_left (eqb p r) (has p (qs ++ rs)) a
      | inr a ↦ or_right (eqb p r) (has p (qs ++ rs)) (has_keeps p qs rs a)
    ]

pub has_last : (p : ℕ) (qs : List ℕ) → has p (qs ++ p ∷ []) ≡ true
has_last p [] = or_left (eqb p p) false (eq-eqb p p refl)
has_last p (r ∷ qs) = or_right (eqb p r) (has p (qs ++ p ∷ [])) (has_last p qs)

pub has_at : (qs : List ℕ) (k : ℕ) → k < length qs → has (get_or qs k 0) qs ≡ true
has_at [] k h = absurd (omega arith)
has_at (q ∷ qs) zero h = or_left (eqb q q) (has q qs) (eq-eqb q q refl)
has_at (q ∷ qs) (suc k) h = or_right (eqb (get_or qs k 0) q) (has (get_or qs k 0) qs) (has_at qs k (omega arith))

-- the joined payloads after one more fragment
pub gathered_push : (p : ℕ) (fs : List Fragment) (f : Fragment) → f.place ≡ p → gather p (fs ++ f ∷ []) ≡ gather p fs ++ f.payload
gathered_push p [] f e = cond-true (eqb f.place p) (f.payload ++ []) [] (eq-eqb f.place p e) ∙ append-nil f.payload
gathered_push p (g ∷ fs) f e =
    let ih = gathered_push p fs f e in
    elim (eqb g.place p) as (λ b. cond b (g.payload ++ gather p (fs ++ f ∷ [])) (gather p (fs ++ f ∷ [])) ≡ cond b (g.payload ++ gather p fs) (gather p fs) ++ f.payload) [
      | true ↦ ap (λ z. g.payload ++ z) ih ∙ sym (append_assoc g.payload (gather p fs) f.payload)
      | false ↦ ih
    ]

pub gathered_off : (p : ℕ) (fs : List Fragment) (f : Fragment) → f.place ≢ p → gather p (fs ++ f ∷ []) ≡ gather p fs
gathered_off p [] f e = cond-false (eqb f.place p) (f.payload ++ []) [] (ne_eqb f.place p e)
gathered_off p (g ∷ fs) f e =
    let ih = gathered_off p fs f e in
    elim (eqb g.place p) as (λ b. cond b (g.payload ++ gather p (fs ++ f ∷ [])) (gather p (fs ++ f ∷ [])) ≡ cond b (g.payload ++ gather p fs) (gather p fs)) [
      | true ↦ ap (λ z. g.payload ++ z) ih
      | false ↦ ih
    ]

-- what the entries of a forward point raise
pub raised_up : (es : List Entry) (kind : Bool) (s n : ℕ) → n ≤ raise es kind s n
raised_up [] kind s n = omega arith
raised_up (e ∷ es) kind s n =
    let m = cond (same e.ordered kind && eqb e.stream s) (max n (suc e.number)) n in
    let up : n ≤ m = elim (same e.ordered kind && eqb e.stream s) as (λ b. n ≤ cond b (max n (suc e.number)) n) [ true ↦ omega arith | false ↦ omega arith ] in
    let ih = raised_up es kind s m in
    omega (arith, up, ih)

pub raised_covers : (es : List Entry) (kind : Bool) (s n k : ℕ) → covers es kind s k ≡ true → k < raise es kind s n
raised_covers [] kind s n k h = cc
raised_covers (e ∷ es) kind s n k h =
    let m = cond (same e.ordered kind && eqb e.stream s) (max n (suc e.number)) n in
    elim (or_cases (same e.ordered kind && (eqb e.stream s && leb k e.number)) (covers es kind s k) h) [
      | inl a ↦
          let ab = and_parts (same e.ordered kind) (eqb e.stream s && leb k e.number) a in
          let bc = and_parts (eqb e.stream s) (leb k e.number) ab.1 in
          let t = and_from (same e.ordered kind) (eqb e.stream s) ab.0 bc.0 in
          let le = leb-true k e.number bc.1 in
          let me : m ≡ max n (suc e.number) = cond-true (same e.ordered kind && eqb e.stream s) (max n (suc e.number)) n t in
          let up = raised_up es kind s m in
          omega (arith, le, me, up)
      | inr a ↦ raised_covers es kind s m k a
    ]

pub raised_cases : (es : List Entry) (kind : Bool) (s n k : ℕ) → k < raise es kind s n → (k < n) ⊎ (covers es kind s k ≡ true)
raised_cases [] kind s n k h = inl h
raised_cases (e ∷ es) kind s n k h =
    let m = cond (same e.ordered kind && eqb e.stream s) (max n (suc e.number)) n in
    elim (raised_cases es kind s m k h) [
      | inr c ↦ inr (or_right (same e.ordered kind && (eqb e.stream s && leb k e.number)) (covers es kind s k) c)
      | inl l ↦
          elim (cases_Bool (same e.ordered kind && eqb e.stream s)) [
            | inl t ↦
                let me : m ≡ max n (suc e.number) = cond-true (same e.ordered kind && eqb e.stream s) (max n (suc e.number)) n t in
                let both = and_parts (same e.ordered kind) (eqb e.stream s) t in
                elim (cases_lt k n) [
                  | inl a ↦ inl a
                  | inr b ↦
                      let le : k ≤ e.number = omega (arith, l, me, b) in
                      inr (or_left (same e.ordered kind && (eqb e.stream s && leb k e.number)) (covers es kind s k)
                      (and_from (same e.ordered kind) (eqb e.stream s && leb k e.number) both.0
                      (and_from (eqb e.stream s) (leb k e.number) both.1 (le-leb k e.number le))))
                ]
            | inr f ↦ inl (subst (λ z. k < z) (cond-false (same e.ordered kind && eqb e.stream s) (max n (suc e.number)) n f) l)
          ]
    ]

-- ---- what is among the items of a list

pub among_left : {A : Type 0} (x : A) (xs ys : List A) → IsAmong x xs → IsAmong x (xs ++ ys)
among_left x [] ys h = absurd h
among_left x (y ∷ xs) ys (inl e) = inl e
among_left x (y ∷ xs) ys (inr h) = inr (among_left x xs ys h)

pub has_from : (k : ℕ) (ids : List ℕ) → IsAmong k ids → has k ids ≡ true
has_from k [] a = absurd a
has_from k (i ∷ ids) (inl e) = or_left (eqb k i) (has k ids) (eq-eqb k i e)
has_from k (i ∷ ids) (inr a) = or_right (eqb k i) (has k ids) (has_from k ids a)

-- an entry names its own number
pub among_covers : (d : Entry) (ds : List Entry) → IsAmong d ds → covers ds d.ordered d.stream d.number ≡ true
among_covers d [] a = absurd a
among_covers d (c ∷ ds) a =
    elim a [
      | inl e ↦
          or_left (same c.ordered d.ordered && (eqb c.stream d.stream && leb d.number c.number)) (covers ds d.ordered d.stream d.number)
          (and_from (same c.ordered d.ordered) (eqb c.stream d.stream && leb d.number c.number) (same_self c.ordered d.ordered (ap (λ (z : Entry). z.ordered) (sym e)))
          (and_from (eqb c.stream d.stream) (leb d.number c.number) (eq-eqb c.stream d.stream (ap (λ (z : Entry). z.stream) (sym e)))
          (le-leb d.number c.number (let n = ap (λ (z : Entry). z.number) e in omega (arith, n)))))
      | inr b ↦ or_right (same c.ordered d.ordered && (eqb c.stream d.stream && leb d.number c.number)) (covers ds d.ordered d.stream d.number) (among_covers d ds b)
    ]
