use Rattle.std.proofs.Common.{ℕ, ◌<◌, get_or}
use Rattle.sctp_error_cause.specs.declared.error_cause.ErrorCause.{ErrorCause}
use Rattle.sctp_wire.specs.Cause.{CauseFits}
use Rattle.sctp_error_cause.specs.CauseViews.{cause_tree}
use Rattle.sctp_wire.specs.ReadBack.{IsText}
use Rattle.sctp_packet.proofs.ranges.causes_fit.Given as goal

abbrev pub invariant-loop-cause : goal.invariant-loop-cause
invariant-loop-cause l = (k : ℕ) (d : ErrorCause) → k < l.cause-index → CauseFits (cause_tree (get_or l.causes k d)) × IsText (cause_tree (get_or l.causes k d))
