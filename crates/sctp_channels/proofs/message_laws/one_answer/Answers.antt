use Rattle.sctp_channels.proofs.AnswerLemmas.{never_both_lem, one_fault_lem}
use Rattle.sctp_channels.proofs.message_laws.one_answer.Goals as goal

pub returns-clause-never_both : goal.returns-clause-never_both
returns-clause-never_both c = never_both_lem

pub returns-clause-one_fault : goal.returns-clause-one_fault
returns-clause-one_fault c = one_fault_lem
