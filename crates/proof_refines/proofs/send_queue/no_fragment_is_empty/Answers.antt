use Rattle.sctp_tx_queue.proofs.RestLemmas.{calls_leave_rests}
use Rattle.proof_refines.proofs.send_queue.no_fragment_is_empty.Goals as goal

pub returns : goal.returns
returns c = calls_leave_rests
