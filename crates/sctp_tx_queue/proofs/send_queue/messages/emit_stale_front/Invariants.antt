use Rattle.std.proofs.Common.{◌≡◌, ◌+◌, sum_by}
use Rattle.std.specs.VecDeque.Iter.{deque_iter_rest}
use Rattle.sctp_state.specs.Events.{Grown}
use Rattle.sctp_tx_queue.specs.SendQueue.{remaining_bytes}
use Rattle.sctp_tx_queue.specs.Produced.{emit_expired, fresh}
use Rattle.sctp_tx_queue.proofs.send_queue.messages.emit_stale_front.Given as goal

abbrev pub invariant-loop-message : goal.invariant-loop-message
invariant-loop-message l = record {
  emitted : emit_expired l.now (deque_iter_rest l.message-iterator) l.events ≡ emit_expired l.now l.messages.items l.initial.events;
  grown : Grown l.initial.events l.events;
  left : fresh l.now (deque_iter_rest l.message-iterator) ≡ fresh l.now l.messages.items;
  bytes : l.bytes + sum_by remaining_bytes (deque_iter_rest l.message-iterator) ≡ sum_by remaining_bytes l.messages.items;
}
