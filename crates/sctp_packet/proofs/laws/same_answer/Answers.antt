use Rattle.sctp_packet.proofs.ViewLemmas.{same_answer_lem}
use Rattle.sctp_packet.proofs.laws.same_answer.Goals as goal

pub returns : goal.returns
returns c = same_answer_lem
