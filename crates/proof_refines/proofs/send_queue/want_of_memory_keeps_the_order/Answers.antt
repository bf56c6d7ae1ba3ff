use Rattle.sctp_tx_queue.proofs.UnfinishedLemmas.{order_kept, numbers_kept, rests_kept}
use Rattle.proof_refines.proofs.send_queue.want_of_memory_keeps_the_order.Goals as goal

pub returns : goal.returns
returns c = record { order = order_kept; numbers = numbers_kept; rests = rests_kept }
