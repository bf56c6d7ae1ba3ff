use Rattle.sctp_tx_queue.proofs.NumberLemmas.{calls_number}
use Rattle.proof_refines.proofs.send_queue.numbers_rise_along_a_stream.Goals as goal

pub returns : goal.returns
returns c = calls_number
