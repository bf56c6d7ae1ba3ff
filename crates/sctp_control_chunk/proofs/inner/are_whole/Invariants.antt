use Rattle.std.proofs.Common.{◌≡◌, true, take}
use Rattle.std.specs.List.{list_all}
use Rattle.sctp_wire.specs.Parameter.{parameter_is_whole}
use Rattle.sctp_parameter.specs.ParameterViews.{parameter_tree}
use Rattle.sctp_control_chunk.proofs.inner.are_whole.Given as goal

abbrev pub invariant-loop-parameter : goal.invariant-loop-parameter
invariant-loop-parameter l = list_all (λ it. parameter_is_whole (parameter_tree it)) (take l.parameter-index l.parameters) ≡ true
