use Rattle.sctp_wire.specs.Serialize.{type_of}
use Rattle.sctp_wire.specs.Parameter.{IsParameter, RefusesParameter, parameter_shape, HasNoResult}
use Rattle.sctp_wire.proofs.ParsesAllLemmas.{one_tiling, whole_not_broken}
use Rattle.sctp_wire.proofs.RefusalLemmas.{BreaksAs_Breaks, one_break, one_fault_as}
use Rattle.sctp_parameter.proofs.LawLemmas.{parameter_stands}
use Rattle.sctp_parameter.proofs.OneParameterLemmas.{one_parameter_lem}
use Rattle.sctp_parameter.proofs.laws.one_list_of_parameters.Goals as goal

pub returns-clause-values : goal.returns-clause-values
returns-clause-values c = one_tiling IsParameter one_parameter_lem

pub returns-clause-never_both : goal.returns-clause-never_both
returns-clause-never_both c = λ bytes ts fault whole broken memory.
    whole_not_broken IsParameter bytes ts whole (BreaksAs_Breaks IsParameter RefusesParameter parameter_stands
    (λ i a b. one_fault_as parameter_shape HasNoResult (type_of i) (type_of i) i.value a b) bytes fault broken memory)

pub returns-clause-fault : goal.returns-clause-fault
returns-clause-fault c = one_break IsParameter RefusesParameter parameter_stands (λ i a b. one_fault_as parameter_shape HasNoResult (type_of i) (type_of i) i.value a b)
