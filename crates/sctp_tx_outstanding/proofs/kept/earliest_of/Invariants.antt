use Rattle.std.proofs.Common.{◌≡◌}
use Rattle.std.specs.VecDeque.Iter.{deque_iter_rest}
use Rattle.sctp_tx_outstanding.specs.Item.{earliest_of, never}
use Rattle.sctp_tx_outstanding.proofs.kept.earliest_of.Given as goal

abbrev pub invariant-loop-item : goal.invariant-loop-item
invariant-loop-item l = earliest_of l.earliest (deque_iter_rest l.item-iterator) ≡ earliest_of never l.items.items
