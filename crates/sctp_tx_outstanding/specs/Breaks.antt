-- The numbers that were next when streams were reset.
use Rattle.std.specs.Prelude.{ℕ, ◌≤◌, nat_le, Bool, false, List, [], ◌∷◌}

pub record Breaks : Type 0 where
  pub numbers : List ℕ

-- each is at least the one before it
abbrev pub AscendFrom : ℕ → List ℕ → Type 0
AscendFrom least [] = Unit {0}
AscendFrom least (b ∷ bs) = (least ≤ b) × AscendFrom b bs

-- whether the first one isn't above the number
abbrev pub is_first_passed : ℕ → List ℕ → Bool
is_first_passed n [] = false
is_first_passed n (b ∷ bs) = nat_le b n
