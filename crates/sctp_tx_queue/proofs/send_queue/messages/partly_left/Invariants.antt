use Rattle.std.proofs.Common.{◌≡◌}
use Rattle.std.specs.Prelude.{filter}
use Rattle.std.specs.VecDeque.Iter.{deque_iter_rest}
use Rattle.sctp_tx_queue.specs.SendQueue.{front_left}
use Rattle.sctp_tx_queue.specs.Resets.{is_partly}
use Rattle.sctp_tx_queue.proofs.send_queue.messages.partly_left.Given as goal

abbrev pub invariant-loop-message : goal.invariant-loop-message
invariant-loop-message l = front_left (filter is_partly (deque_iter_rest l.message-iterator)) ≡ front_left (filter is_partly l.messages.items)
