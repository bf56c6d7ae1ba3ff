use Rattle.sctp_parameter.proofs.OneParameterLemmas.{one_parameter_lem}
use Rattle.sctp_parameter.proofs.laws.one_parameter.Goals as goal

pub returns : goal.returns
returns c = one_parameter_lem
