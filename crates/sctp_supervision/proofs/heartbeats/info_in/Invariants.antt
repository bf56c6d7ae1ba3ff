use Rattle.std.proofs.Common.{◌≡◌, map, drop}
use Rattle.sctp_parameter.specs.ParameterViews.{parameter_tree}
use Rattle.spec_endpoint.specs.Heartbeats.{info_in}
use Rattle.sctp_supervision.proofs.heartbeats.info_in.Given as goal

abbrev pub invariant-loop-parameter : goal.invariant-loop-parameter
invariant-loop-parameter l = info_in (map parameter_tree (drop l.parameter-index l.parameters)) ≡ info_in (map parameter_tree l.parameters)
