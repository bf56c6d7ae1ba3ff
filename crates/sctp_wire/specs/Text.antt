-- Bytes read as text, where they may be no UTF-8.
use Rattle.std.specs.Prelude.{◌≡◌, ◌⊎◌, ℕ, List, [], ◌∷◌, ◌++◌}
use Rattle.std.specs.Char.{encode_utf8, IsScalar}
use Rattle.std.specs.Str.{encode_utf8_all, StartsWithNoChar}

-- The bytes begin with the character; or with none, and then their first byte is read as U+FFFD.
abbrev pub ReadsChar : List ℕ → ℕ → List ℕ → Type 0
ReadsChar bytes c rest = (IsScalar c × (bytes ≡ encode_utf8 c ++ rest))
    ⊎ (StartsWithNoChar bytes × (c ≡ 0xFFFD) × (b : ℕ) × (bytes ≡ b ∷ rest))

-- the bytes read as these characters in turn, up to the rest
abbrev pub ReadsChars : List ℕ → List ℕ → List ℕ → Type 0
ReadsChars bytes [] rest = bytes ≡ rest
ReadsChars bytes (c ∷ cs) rest = (after : List ℕ) × ReadsChar bytes c after × ReadsChars after cs rest

-- the text, in UTF-8, that the bytes are read as
abbrev pub IsTextOf : List ℕ → List ℕ → Type 0
IsTextOf bytes text = (cs : List ℕ) × ReadsChars bytes cs [] × (text ≡ encode_utf8_all cs)
