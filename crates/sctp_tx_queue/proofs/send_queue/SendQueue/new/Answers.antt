use Rattle.std.proofs.Common.{refl, ap}
use Rattle.sctp_tx_queue.specs.SendQueue.{Streams}
use Rattle.sctp_tx_queue.proofs.AddedLemmas.{new_keeps}
use Rattle.sctp_tx_queue.proofs.send_queue.SendQueue.new.Goals as goal

pub invariant_of-result : goal.invariant_of-result
invariant_of-result c = new_keeps _ _ c.none.ensures (ap (λ (ss : Streams). ss.entries) c.new.ensures) refl
