use Rattle.sctp_packet.proofs.LawLemmas.{never_both_lem, one_reason_lem}
use Rattle.sctp_packet.proofs.laws.refused_or_accepted.Goals as goal

pub returns-clause-never_both : goal.returns-clause-never_both
returns-clause-never_both c = never_both_lem

pub returns-clause-one_reason : goal.returns-clause-one_reason
returns-clause-one_reason c = one_reason_lem
