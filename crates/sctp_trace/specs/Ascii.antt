-- Text that takes a column a byte.
use Rattle.std.specs.Prelude.{ℕ, Bool, ◌&&◌, nat_le, if◌then◌else◌}

abbrev pub is_printable : ℕ → Bool
is_printable n = nat_le 32 n && nat_le n 126

-- a byte that is printable ASCII stays, any other is a question mark
abbrev pub plain : ℕ → ℕ
plain n = if is_printable n then n else 63
