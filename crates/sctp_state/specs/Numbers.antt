-- Spans and counts.
use Rattle.std.specs.Prelude.{ℕ, ◌+◌, ◌-◌, ◌^◌, min}

-- a millisecond, in nanoseconds
abbrev pub ms : ℕ
ms = 1000000

-- the greatest `u32`
abbrev pub most_u32 : ℕ
most_u32 = 2 ^ 32 - 1

-- one more, but at most the greatest `u64`
abbrev pub more : ℕ → ℕ
more n = min (n + 1) (2 ^ 64 - 1)
