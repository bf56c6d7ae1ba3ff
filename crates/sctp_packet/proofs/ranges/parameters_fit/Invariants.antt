use Rattle.std.proofs.Common.{ℕ, ◌<◌, get_or}
use Rattle.sctp_parameter.specs.declared.parameters.Parameter.{Parameter}
use Rattle.sctp_wire.specs.Parameter.{ParameterFits}
use Rattle.sctp_parameter.specs.ParameterViews.{parameter_tree}
use Rattle.sctp_packet.proofs.ranges.parameters_fit.Given as goal

abbrev pub invariant-loop-parameter : goal.invariant-loop-parameter
invariant-loop-parameter l = (k : ℕ) (d : Parameter) → k < l.parameter-index → ParameterFits (parameter_tree (get_or l.parameters k d))
