use Rattle.sctp_tx_queue.proofs.TakenUpLemmas.{restored_in_order, written_as_sent}
use Rattle.proof_refines.proofs.send_queue.restored_queues_are_in_order.Goals as goal

pub returns : goal.returns
returns c = record { restored = restored_in_order; written = written_as_sent }
