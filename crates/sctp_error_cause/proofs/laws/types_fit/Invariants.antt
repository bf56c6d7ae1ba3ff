use Rattle.std.proofs.Common.{ℕ, ◌<◌, ◌^◌, get_or}
use Rattle.sctp_error_cause.proofs.laws.types_fit.Given as goal

abbrev pub invariant-loop-typ : goal.invariant-loop-typ
invariant-loop-typ l = (k : ℕ) (d : ℕ) → k < l.typ-index → get_or l.types k d < 2 ^ 16
