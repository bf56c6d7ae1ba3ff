use Rattle.std.proofs.Common.{◌≡◌, map, drop}
use Rattle.sctp_parameter.specs.ParameterViews.{parameter_tree}
use Rattle.spec_endpoint.specs.Opening.{cookie_in}
use Rattle.sctp_handshake.proofs.init_ack.cookie_in.Given as goal

abbrev pub invariant-loop-parameter : goal.invariant-loop-parameter
invariant-loop-parameter l = cookie_in (map parameter_tree (drop l.parameter-index l.parameters)) ≡ cookie_in (map parameter_tree l.parameters)
