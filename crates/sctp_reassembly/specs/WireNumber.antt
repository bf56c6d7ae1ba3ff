-- The numbers that those in chunks stand for.
use Rattle.std.specs.Prelude.{ℕ}
use Rattle.sctp_serial.specs.Unwrapped.{origin, u32_space, halves, nearest}
use Rattle.sctp_reassembly.specs.declared.near.WireNumber.{WireNumber}
use Rattle.sctp_reassembly.specs.declared.near.WireNumber.TheVariants.{First, Ssn, Mid}

-- the number that is nearest to this one
abbrev pub nearest_of : WireNumber → ℕ → ℕ
nearest_of First near = origin
nearest_of (Ssn ssn) near = nearest halves 0 near ssn.0
nearest_of (Mid mid) near = nearest u32_space 0 near mid.0
