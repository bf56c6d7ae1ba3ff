use Rattle.std.proofs.Common.{rules}
use Rattle.std.proofs.lemmas.Grind.{common_steps}
use Rattle.std.proofs.lemmas.List.Elements.{All-map}
use Rattle.sctp_wire.specs.Parameter.{ParameterFits}
use Rattle.sctp_parameter.specs.ParameterViews.{parameter_tree}
use Rattle.sctp_packet.proofs.ranges.parameters_fit.Goals as goal

pub returns : goal.returns
returns c = All-map ParameterFits parameter_tree c.args.parameters.now (search (rules, common_steps))
