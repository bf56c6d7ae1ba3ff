-- The checksum of this program.
use Rattle.std.specs.Prelude.{ℕ, List, sum, ◌%◌, ◌^◌}

-- the sum of the bytes, which wraps at 32 bits
abbrev pub byte_sum : List ℕ → ℕ
byte_sum bytes = sum bytes % 2 ^ 32
