-- A loop that appends what it makes of each item: with what is left, it gives the whole.
use Rattle.std.proofs.Common.{◌≡◌, ℕ, ◌+◌, ◌<◌, ◌≤◌, List, [], ◌∷◌, ◌++◌, drop, length, get_or, append_assoc, ap, sym, ◌∙◌}
use Rattle.std.proofs.lemmas.List.{append-nil, at_drop_more, at_drop_all}

module _ {X : Type 0} (work : List X → List ℕ) where
  -- the loop appends the bytes of this item
  pub work_more : (of : X → List ℕ) → ((x : X) (xs : List X) → work (x ∷ xs) ≡ of x ++ work xs) → (now new : List ℕ) (xs : List X) (i : ℕ) (d : X)
      → i < length xs → new ≡ now ++ of (get_or xs i d) → now ++ work (drop i xs) ≡ work xs → new ++ work (drop (i + 1) xs) ≡ work xs
  work_more of step now new xs i d inside put before =
      let rest : List X = drop (i + 1) xs in
      let x : X = get_or xs i d in
      ap (λ (l : List ℕ). l ++ work rest) put
      ∙ (append_assoc now (of x) (work rest)
      ∙ (sym (ap (λ (l : List ℕ). now ++ l) (at_drop_more work xs i d inside ∙ step x rest)) ∙ before))

  -- no item is left
  pub work_done : work [] ≡ [] → (now : List ℕ) (xs : List X) (i : ℕ) → length xs ≤ i → now ++ work (drop i xs) ≡ work xs → now ≡ work xs
  work_done none now xs i past before =
      sym (append-nil now) ∙ (sym (ap (λ (l : List ℕ). now ++ l) (at_drop_all work xs i past ∙ none)) ∙ before)
