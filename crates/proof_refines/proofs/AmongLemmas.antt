-- What is among the items of a list.
use Rattle.std.proofs.Common.{◌≡◌, ℕ, zero, suc, ◌≤◌, Bool, true, false, cond, ◌⊎◌, inl, inr, List, [], ◌∷◌, ◌++◌, length, get_or, refl, ap, sym, ◌∙◌, arith, eqb}
use Rattle.std.specs.Prelude.{nat_lt}
use Rattle.std.proofs.lemmas.Bool.{eqb-true, or_cases}
use Rattle.proof_protocol.specs.State.{IsAmong}
use Rattle.sctp_rx.specs.Runs.{is_held, put_in, from_rank, last_of}

module _ {A : Type 0} where
  pub among_right : (x : A) (xs ys : List A) → IsAmong x ys → IsAmong x (xs ++ ys)
  among_right x [] ys h = h
  among_right x (y ∷ xs) ys h = inr (among_right x xs ys h)

  pub among_cases : (x : A) (xs ys : List A) → IsAmong x (xs ++ ys) → IsAmong x xs ⊎ IsAmong x ys
  among_cases x [] ys h = inr h
  among_cases x (y ∷ xs) ys (inl e) = inl (inl e)
  among_cases x (y ∷ xs) ys (inr h) =
      elim (among_cases x xs ys h) [
        | inl a ↦ inl (inr a)
        | inr b ↦ inr b
      ]

  pub record Around (x : A) (xs : List A) : Type 0 where
    pub front : List A
    pub back : List A
    pub is : xs ≡ front ++ x ∷ back

  pub around : (x : A) (xs : List A) → IsAmong x xs → Around x xs
  around x [] h = absurd h
  around x (y ∷ xs) (inl e) = record { front = []; back = xs; is = ap (λ (z : A). z ∷ xs) (sym e) }
  around x (y ∷ xs) (inr h) = let s = around x xs h in record { front = y ∷ s.front; back = s.back; is = ap (λ (t : List A). y ∷ t) s.is }

  -- items by their places
  pub at_among : (e d : A) (es : List A) (j : ℕ) → j ≤ length es → IsAmong (get_or (e ∷ es) j d) (e ∷ es)
  at_among e d es zero h = inl refl
  at_among e d [] (suc j) h = absurd (omega (arith, h))
  at_among e d (f ∷ fs) (suc j) h = inr (at_among f d fs j (omega (arith, h)))

  pub place_among : (x e d : A) (es : List A) → IsAmong x (e ∷ es) → (j : ℕ) × (j ≤ length es) × (x ≡ get_or (e ∷ es) j d)
  place_among x e d es (inl s) = (0, omega arith, s)
  place_among x e d [] (inr h) = absurd h
  place_among x e d (f ∷ fs) (inr h) = let p = place_among x f d fs h in let l = p.1 in (suc p.0, omega (arith, l), p.2)

  pub at_last : (e d : A) (es : List A) → get_or (e ∷ es) (length es) d ≡ last_of e es
  at_last e d [] = refl
  at_last e d (f ∷ fs) = at_last f d fs

-- ---- by rank

module _ {A : Type 0} (rank : A → ℕ) where
  pub put_here : (x : A) (es : List A) → IsAmong x (put_in rank x es)
  put_here x [] = inl refl
  put_here x (e ∷ es) = go (nat_lt (rank x) (rank e)) (put_here x es)
    where
      go : (b : Bool) → IsAmong x (put_in rank x es) → IsAmong x (cond b (x ∷ (e ∷ es)) (e ∷ put_in rank x es))
      go true h = inl refl
      go false h = inr h

  pub put_others : (x h : A) (es : List A) → IsAmong h es → IsAmong h (put_in rank x es)
  put_others x h [] a = absurd a
  put_others x h (e ∷ es) a = go (nat_lt (rank x) (rank e)) a (put_others x h es)
    where
      go : (b : Bool) → IsAmong h (e ∷ es) → (IsAmong h es → IsAmong h (put_in rank x es)) → IsAmong h (cond b (x ∷ (e ∷ es)) (e ∷ put_in rank x es))
      go true a ih = inr a
      go false (inl s) ih = inl s
      go false (inr a) ih = inr (ih a)

  pub put_cases : (x h : A) (es : List A) → IsAmong h (put_in rank x es) → (h ≡ x) ⊎ IsAmong h es
  put_cases x h [] (inl s) = inl s
  put_cases x h [] (inr a) = absurd a
  put_cases x h (e ∷ es) a = go (nat_lt (rank x) (rank e)) (put_cases x h es) a
    where
      go : (b : Bool) → (IsAmong h (put_in rank x es) → (h ≡ x) ⊎ IsAmong h es) → IsAmong h (cond b (x ∷ (e ∷ es)) (e ∷ put_in rank x es)) → (h ≡ x) ⊎ IsAmong h (e ∷ es)
      go true ih (inl s) = inl s
      go true ih (inr a) = inr a
      go false ih (inl s) = inr (inl s)
      go false ih (inr a) =
          elim (ih a) [
            | inl s ↦ inl s
            | inr b ↦ inr (inr b)
          ]

  pub held_item : (n : ℕ) (es : List A) → is_held rank n es ≡ true → (h : A) × IsAmong h es × (rank h ≡ n)
  held_item n [] a = absurd (cc)
  held_item n (e ∷ es) a =
      elim (or_cases (eqb (rank e) n) (is_held rank n es) a) [
        | inl s ↦ (e, inl refl, eqb-true (rank e) n s)
        | inr b ↦ let i = held_item n es b in (i.0, inr i.1, i.2)
      ]

  pub from_cases : (n : ℕ) (h : A) (es : List A) → IsAmong h (from_rank rank n es) → IsAmong h es × (nat_lt (rank h) n ≡ false)
  from_cases n h [] a = absurd a
  from_cases n h (e ∷ es) a = go (nat_lt (rank e) n) refl (from_cases n h es) a
    where
      go : (b : Bool) → nat_lt (rank e) n ≡ b → (IsAmong h (from_rank rank n es) → IsAmong h es × (nat_lt (rank h) n ≡ false)) → IsAmong h (cond b (from_rank rank n es) (e ∷ from_rank rank n es)) → IsAmong h (e ∷ es) × (nat_lt (rank h) n ≡ false)
      go true t ih a = let p = ih a in (inr p.0, p.1)
      go false t ih (inl s) = (inl s, ap (λ (z : A). nat_lt (rank z) n) s ∙ t)
      go false t ih (inr a) = let p = ih a in (inr p.0, p.1)

  pub from_kept : (n : ℕ) (h : A) (es : List A) → IsAmong h es → nat_lt (rank h) n ≡ false → IsAmong h (from_rank rank n es)
  from_kept n h [] a t = absurd a
  from_kept n h (e ∷ es) a t = go (nat_lt (rank e) n) refl (λ b. from_kept n h es b t) a
    where
      go : (b : Bool) → nat_lt (rank e) n ≡ b → (IsAmong h es → IsAmong h (from_rank rank n es)) → IsAmong h (e ∷ es) → IsAmong h (cond b (from_rank rank n es) (e ∷ from_rank rank n es))
      go true u ih (inl s) = let no : true ≡ false = sym u ∙ (ap (λ (z : A). nat_lt (rank z) n) (sym s) ∙ t) in absurd (cc)
      go true u ih (inr a) = ih a
      go false u ih (inl s) = inl s
      go false u ih (inr a) = inr (ih a)
