-- A struct of C as its bytes: each number at its place, low byte first. Who has a shorter struct has fewer numbers.
use Rattle.std.specs.Prelude.{ℕ, ◌+◌, ◌*◌, ◌/◌, ◌%◌, ◌^◌, nat_le, if◌then◌else◌, List, [], ◌∷◌, length, set, slice_index}

-- ---- read

abbrev pub u16_in : (at : ℕ) → List ℕ → ℕ
u16_in at bytes = slice_index bytes at + 256 * slice_index bytes (at + 1)

abbrev pub u32_in : (at : ℕ) → List ℕ → ℕ
u32_in at bytes = u16_in at bytes + 2 ^ 16 * u16_in (at + 2) bytes

abbrev pub u64_in : (at : ℕ) → List ℕ → ℕ
u64_in at bytes = u32_in at bytes + 2 ^ 32 * u32_in (at + 4) bytes

-- what stands there, or another number where the bytes end before
abbrev pub u16_or : (at other : ℕ) → List ℕ → ℕ
u16_or at other bytes = if nat_le (at + 2) (length bytes) then u16_in at bytes else other

abbrev pub u32_or : (at other : ℕ) → List ℕ → ℕ
u32_or at other bytes = if nat_le (at + 4) (length bytes) then u32_in at bytes else other

abbrev pub u64_or : (at other : ℕ) → List ℕ → ℕ
u64_or at other bytes = if nat_le (at + 8) (length bytes) then u64_in at bytes else other

-- ---- written, as far as there is a place

abbrev pub put_u8 : (at number : ℕ) → List ℕ → List ℕ
put_u8 at number bytes = set bytes at number

abbrev pub put_u16 : (at number : ℕ) → List ℕ → List ℕ
put_u16 at number bytes = put_u8 (at + 1) (number / 256) (put_u8 at (number % 256) bytes)

abbrev pub put_u32 : (at number : ℕ) → List ℕ → List ℕ
put_u32 at number bytes = put_u16 (at + 2) (number / 2 ^ 16) (put_u16 at (number % 2 ^ 16) bytes)

abbrev pub put_u64 : (at number : ℕ) → List ℕ → List ℕ
put_u64 at number bytes = put_u32 (at + 4) (number / 2 ^ 32) (put_u32 at (number % 2 ^ 32) bytes)

-- one behind the other
abbrev pub in_turn : List (List ℕ → List ℕ) → List ℕ → List ℕ
in_turn [] bytes = bytes
in_turn (write ∷ writes) bytes = in_turn writes (write bytes)
