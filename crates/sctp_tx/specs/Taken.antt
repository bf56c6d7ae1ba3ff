-- Fragments that go somewhere one after the other.
use Rattle.std.specs.Prelude.{List, [], ◌∷◌}

-- all of them, in order
abbrev pub taken_all : {C S : Type 0} → (C → S → S) → List C → S → S
taken_all taken [] s = s
taken_all taken (c ∷ cs) s = taken_all taken cs (taken c s)
