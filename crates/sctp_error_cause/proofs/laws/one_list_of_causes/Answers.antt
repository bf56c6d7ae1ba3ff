use Rattle.sctp_wire.specs.Serialize.{type_of}
use Rattle.sctp_wire.specs.Cause.{IsCause, RefusesCause, cause_shape}
use Rattle.sctp_wire.proofs.ParsesAllLemmas.{one_tiling, whole_not_broken}
use Rattle.sctp_wire.proofs.RefusalLemmas.{BreaksAs_Breaks, one_break, one_fault_as}
use Rattle.sctp_error_cause.proofs.LawLemmas.{cause_stands}
use Rattle.sctp_error_cause.proofs.OneCauseLemmas.{one_cause_lem}
use Rattle.sctp_error_cause.proofs.laws.one_list_of_causes.Goals as goal

pub returns-clause-values : goal.returns-clause-values
returns-clause-values c = one_tiling IsCause one_cause_lem

pub returns-clause-never_both : goal.returns-clause-never_both
returns-clause-never_both c = λ bytes ts fault whole broken memory.
    whole_not_broken IsCause bytes ts whole (BreaksAs_Breaks IsCause RefusesCause cause_stands
    (λ i a b. one_fault_as cause_shape (λ _ _. ⊥) (type_of i) (type_of i) i.value a b) bytes fault broken memory)

pub returns-clause-fault : goal.returns-clause-fault
returns-clause-fault c = one_break IsCause RefusesCause cause_stands (λ i a b. one_fault_as cause_shape (λ _ _. ⊥) (type_of i) (type_of i) i.value a b)
