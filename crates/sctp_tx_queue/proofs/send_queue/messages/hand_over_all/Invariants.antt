use Rattle.std.proofs.Common.{◌≡◌, ◌++◌}
use Rattle.std.specs.Prelude.{map}
use Rattle.std.specs.VecDeque.Iter.{deque_iter_rest}
use Rattle.sctp_state.specs.Handover.{stream_message_of}
use Rattle.sctp_tx_queue.specs.Handover.{queued_message}
use Rattle.sctp_tx_queue.proofs.send_queue.messages.hand_over_all.Given as goal

abbrev pub invariant-loop-message : goal.invariant-loop-message
invariant-loop-message l =
    map stream_message_of l.records.items ++ map (queued_message l.now l.id.0) (deque_iter_rest l.message-iterator) ≡ map stream_message_of l.initial.records.items ++ map (queued_message l.now l.id.0) l.messages.items
