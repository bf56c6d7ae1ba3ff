-- Tags by pairs: a map of all numbers, one to one, that takes each first one to its second.
use Rattle.std.specs.Prelude.{◌≡◌, ◌≢◌, ℕ, ◌==◌, if◌then◌else◌, List, [], ◌∷◌, ⊤, ◌⊎◌}

-- two numbers change places
abbrev pub swap : ℕ → ℕ → ℕ → ℕ
swap a b x = if x == a then b else (if x == b then a else x)

abbrev pub rename : List (ℕ × ℕ) → ℕ → ℕ
rename [] x = x
rename (p ∷ ps) x = swap (rename ps p.0) p.1 (rename ps x)

-- none is 0, and none stands twice on one side
abbrev pub DiffersFrom : (tag name : ℕ) → List (ℕ × ℕ) → Type 0
DiffersFrom tag name [] = ⊤
DiffersFrom tag name (p ∷ ps) = (tag ≢ p.0) × (name ≢ p.1) × DiffersFrom tag name ps

abbrev pub AreApart : List (ℕ × ℕ) → Type 0
AreApart [] = ⊤
AreApart (p ∷ ps) = (p.0 ≢ 0) × (p.1 ≢ 0) × DiffersFrom p.0 p.1 ps × AreApart ps

abbrev pub IsPaired : (tag name : ℕ) → List (ℕ × ℕ) → Type 0
IsPaired tag name [] = ⊥
IsPaired tag name (p ∷ ps) = ((tag ≡ p.0) × (name ≡ p.1)) ⊎ IsPaired tag name ps

-- different numbers get different names, 0 stays, and each pair is kept
pub record Renames (ps : List (ℕ × ℕ)) : Type 0 where
  pub apart : (a b : ℕ) → (rename ps a == rename ps b) ≡ (a == b)
  pub none : rename ps 0 ≡ 0
  pub pairs : (tag name : ℕ) → IsPaired tag name ps → rename ps tag ≡ name

abbrev pub PairsAreRenamed : Type 0
PairsAreRenamed = (ps : List (ℕ × ℕ)) → AreApart ps → Renames ps
