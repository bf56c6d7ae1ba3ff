-- Lengths that a value may have, and why a parameter or a cause is refused.
use Rattle.std.specs.Prelude.{◌≡◌, ◌≢◌, ◌⊎◌, ℕ, ◌-◌, ◌*◌, ◌%◌, ◌<◌, ◌≤◌, ◌^◌, List, ◌++◌, length}
use Rattle.sctp_wire.specs.Field.{be32}
use Rattle.sctp_wire.specs.declared.error.ChunkParseError.{ChunkParseError}
use Rattle.sctp_wire.specs.declared.error.ChunkParseError.TheVariants.{InvalidLength, InvalidType, InvalidPadding, InvalidValue, Memory}

-- The lengths that a type allows: any; one; one of two; a fixed part and then entries of a width; a number of four
-- bytes and then as many entries of a width.
pub data Shape : Type 0 where
  any_length : Shape
  exactly : ℕ → Shape
  either : ℕ → ℕ → Shape
  in_steps : ℕ → ℕ → Shape
  counted : ℕ → Shape

abbrev pub HasShape : Shape → List ℕ → Type 0
HasShape any_length value = Unit {0}
HasShape (exactly n) value = length value ≡ n
HasShape (either m n) value = (length value ≡ m) ⊎ (length value ≡ n)
HasShape (in_steps fixed width) value = (fixed ≤ length value) × ((length value - fixed) % width ≡ 0)
HasShape (counted width) value = (count : ℕ) × (entries : List ℕ) × (count < 2 ^ 32)
    × (value ≡ be32 count ++ entries) × (length entries ≡ width * count)

-- A parameter or a cause of type `typ`, read as one of type `asked`, is refused: its type is another one; its value has
-- no length that the type allows; or its length is fine, and it holds a number that stands for nothing.
abbrev pub RefusesAs : (ℕ → Shape) → (ℕ → List ℕ → Type 0) → ℕ → ℕ → List ℕ → ChunkParseError → Type 0
RefusesAs shape Misspeaks asked typ value InvalidLength = (typ ≡ asked) × (HasShape (shape asked) value → ⊥)
RefusesAs shape Misspeaks asked typ value InvalidType = typ ≢ asked
RefusesAs shape Misspeaks asked typ value InvalidPadding = ⊥
RefusesAs shape Misspeaks asked typ value InvalidValue = (typ ≡ asked) × HasShape (shape asked) value × Misspeaks asked value
RefusesAs shape Misspeaks asked typ value Memory = Unit {0}
