use Rattle.std.proofs.Common.{◌≡◌, ◌+◌, ◌≤◌, ◌++◌}
use Rattle.std.specs.VecDeque.{deque_len, deque_capacity}
use Rattle.sctp_fragments.proofs.interval.pieces.append_all.Given as goal

abbrev pub invariant-loop-next : goal.invariant-loop-next
invariant-loop-next g l = record {
  joined : l.queue.items ++ l.others.items ≡ l.fn.queue.items ++ l.fn.others.items;
  room : deque_len l.queue + deque_len l.others ≤ deque_capacity l.queue;
}

abbrev pub decreases-loop-next : goal.decreases-loop-next
decreases-loop-next g l = deque_len l.others
