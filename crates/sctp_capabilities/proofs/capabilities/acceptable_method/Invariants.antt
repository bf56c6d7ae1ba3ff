use Rattle.std.proofs.Common.{◌≡◌, map, drop}
use Rattle.sctp_parameter.specs.ParameterViews.{parameter_tree}
use Rattle.sctp_capabilities.specs.Capabilities.{method_in}
use Rattle.sctp_capabilities.proofs.capabilities.acceptable_method.Given as goal

-- no parameter so far names a method
abbrev pub invariant-loop-parameter : goal.invariant-loop-parameter
invariant-loop-parameter l =
    method_in (map parameter_tree l.parameters) ≡ method_in (map parameter_tree (drop l.parameter-index l.parameters))
