-- Serial number arithmetic (RFC 1982 section 3): the integers modulo a space.
use Rattle.std.specs.Prelude.{ℕ, ◌+◌, ◌-◌, ◌/◌, ◌%◌, ◌<◌, min}

-- the number n further on
abbrev pub serial_sum : ℕ → ℕ → ℕ → ℕ
serial_sum space a n = (a + n) % space

-- by how many steps a is ahead of b, once round
abbrev pub serial_difference : ℕ → ℕ → ℕ → ℕ
serial_difference space a b = (a + space - b) % space

-- how far the two are apart, the shorter way
abbrev pub serial_distance : ℕ → ℕ → ℕ → ℕ
serial_distance space a b = min (serial_difference space a b) (serial_difference space b a)

-- a is greater than b: ahead of it, by less than half the space
abbrev pub IsGreater : ℕ → ℕ → ℕ → Type 0
IsGreater space a b = (0 < serial_difference space a b) × (serial_difference space a b < space / 2)
