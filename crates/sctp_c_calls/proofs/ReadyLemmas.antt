-- Without a first message none is ready.
use Rattle.std.proofs.Common.{◌≡◌, None, List, [], ◌∷◌, slice_get, refl}

pub nothing_ready : {A : Type 0} (xs : List A) → None ≡ slice_get xs 0 → xs ≡ []
nothing_ready [] e = refl
nothing_ready (x ∷ xs) e = cc
