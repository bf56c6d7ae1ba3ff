use Rattle.std.proofs.Common.{◌≡◌, ◌++◌}
use Rattle.std.specs.Prelude.{map}
use Rattle.std.specs.VecDeque.Iter.{deque_iter_rest}
use Rattle.sctp_state.specs.Handover.{outstanding_data_of}
use Rattle.sctp_tx_outstanding.specs.Handover.{item_records}
use Rattle.sctp_tx_outstanding.proofs.kept.handover.hand_over_all.Given as goal

abbrev pub invariant-loop-item : goal.invariant-loop-item
invariant-loop-item l =
    map outstanding_data_of l.records.items ++ item_records l.now (deque_iter_rest l.item-iterator) ≡ map outstanding_data_of l.initial.records.items ++ item_records l.now l.items.items
