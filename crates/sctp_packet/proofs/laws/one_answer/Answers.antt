use Rattle.sctp_packet.proofs.LawLemmas.{accepted_alone, refused_alone}
use Rattle.sctp_packet.proofs.laws.one_answer.Goals as goal

pub returns-clause-accepted : goal.returns-clause-accepted
returns-clause-accepted c = accepted_alone

pub returns-clause-refused : goal.returns-clause-refused
returns-clause-refused c = refused_alone
