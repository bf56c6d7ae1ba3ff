use Rattle.sctp_probe.proofs.AnswerLemmas.{one_answer_lem}
use Rattle.sctp_probe.proofs.probing.one_answer.Goals as goal

pub returns : goal.returns
returns c = one_answer_lem
