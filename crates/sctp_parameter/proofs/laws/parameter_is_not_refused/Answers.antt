use Rattle.sctp_parameter.proofs.LawLemmas.{parameter_stands}
use Rattle.sctp_parameter.proofs.laws.parameter_is_not_refused.Goals as goal

pub returns : goal.returns
returns c = parameter_stands
