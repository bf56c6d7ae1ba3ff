-- Entries in pieces.
use Rattle.std.specs.Prelude.{Bool, true, false, List, [], ◌∷◌}

-- whether no piece is empty
abbrev pub are_some : {E : Type 0} → List (List E) → Bool
are_some [] = true
are_some ([] ∷ ds) = false
are_some ((e ∷ es) ∷ ds) = are_some ds
