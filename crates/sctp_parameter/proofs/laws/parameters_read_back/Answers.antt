use Rattle.sctp_wire.specs.Parameter.{IsParameter, parameter_item}
use Rattle.sctp_wire.specs.ReadBack.{ParameterReadsBack}
use Rattle.sctp_wire.proofs.ReadBackLemmas.{parses_all_padded, parses_all_inner}
use Rattle.sctp_parameter.proofs.LawLemmas.{parameter_written}
use Rattle.sctp_parameter.proofs.laws.parameters_read_back.Goals as goal

pub returns-clause-padded : goal.returns-clause-padded
returns-clause-padded c = parses_all_padded IsParameter parameter_item ParameterReadsBack parameter_written

pub returns-clause-inner : goal.returns-clause-inner
returns-clause-inner c = parses_all_inner IsParameter parameter_item ParameterReadsBack parameter_written
