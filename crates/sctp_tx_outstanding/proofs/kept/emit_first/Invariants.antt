use Rattle.std.proofs.Common.{◌≡◌, take}
use Rattle.std.specs.VecDeque.Iter.{deque_iter_rest}
use Rattle.sctp_state.specs.Events.{emit_events, Grown}
use Rattle.sctp_tx_outstanding.specs.Sack.{all_leaving_events}
use Rattle.sctp_tx_outstanding.proofs.kept.emit_first.Given as goal

abbrev pub invariant-loop-item : goal.invariant-loop-item
invariant-loop-item l = record {
  emitted : emit_events (all_leaving_events (take l.left (deque_iter_rest l.item-iterator))) l.events ≡ emit_events (all_leaving_events (take l.count l.items.items)) l.initial.events;
  grown : Grown l.initial.events l.events;
}
