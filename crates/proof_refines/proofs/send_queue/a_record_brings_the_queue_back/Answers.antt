use Rattle.sctp_tx_queue.proofs.AgainLemmas.{comes_back}
use Rattle.proof_refines.proofs.send_queue.a_record_brings_the_queue_back.Goals as goal

pub returns : goal.returns
returns c = comes_back
