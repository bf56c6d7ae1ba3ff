use Rattle.std.proofs.Common.{◌≡◌, ◌+◌, ◌≤◌, ◌++◌}
use Rattle.std.specs.VecDeque.{deque_len, deque_capacity}
use Rattle.sctp_fragments.proofs.interval.pieces.prepend_all.Given as goal

abbrev pub invariant-loop-last : goal.invariant-loop-last
invariant-loop-last g l = record {
  joined : l.others.items ++ l.queue.items ≡ l.fn.others.items ++ l.fn.queue.items;
  room : deque_len l.queue + deque_len l.others ≤ deque_capacity l.queue;
}

abbrev pub decreases-loop-last : goal.decreases-loop-last
decreases-loop-last g l = deque_len l.others
