-- Lists of values, of which each was looked at in turn.
use Rattle.std.proofs.Common.{◌≡◌, ℕ, zero, suc, ◌+◌, ◌<◌, ◌≤◌, List, [], ◌∷◌, length, take, get_or, subst, arith}
use Rattle.std.specs.Prelude.{map}
use Rattle.std.proofs.lemmas.List.{take_all}
use Rattle.sctp_packet.specs.Grammar.{Each}

module _ {X Y : Type 0} (P : Y → Type 0) (f : X → Y) where
  seen_next : (xs : List X) (i : ℕ) (d : X) → i < length xs → Each P (map f (take i xs)) → P (f (get_or xs i d)) → Each P (map f (take (suc i) xs))
  seen_next [] i d less h p = absurd (omega (arith, less))
  seen_next (y ∷ ys) zero d less h p = (p, tt)
  seen_next (y ∷ ys) (suc i) d less h p = (h.0, seen_next ys i d (omega (arith, less)) h.1 p)

  pub seen_at : (xs : List X) (i : ℕ) (d : X) → i < length xs → Each P (map f (take i xs)) → P (f (get_or xs i d)) → Each P (map f (take (i + 1) xs))
  seen_at xs i d less h p =
      let one : suc i ≡ i + 1 = omega arith in
      subst (λ (n : ℕ). Each P (map f (take n xs))) one (seen_next xs i d less h p)

  pub seen_more : (xs : List X) (i : ℕ) (x : X) → i < length xs → x ≡ get_or xs i x → Each P (map f (take i xs)) → P (f x) → Each P (map f (take (i + 1) xs))
  seen_more xs i x less e h p = seen_at xs i x less h (subst (λ (z : X). P (f z)) e p)

  pub seen_all : (xs : List X) (i : ℕ) → length xs ≤ i → Each P (map f (take i xs)) → Each P (map f xs)
  seen_all xs i few h = subst (λ (ys : List X). Each P (map f ys)) (take_all i xs few) h

  -- what holds of each value holds of each element at its value
  pub each_of_map : (xs : List X) → Each P (map f xs) → Each (λ (x : X). P (f x)) xs
  each_of_map [] h = tt
  each_of_map (x ∷ xs) h = (h.0, each_of_map xs h.1)
