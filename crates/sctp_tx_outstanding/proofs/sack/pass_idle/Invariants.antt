use Rattle.std.proofs.Common.{◌≤◌, ◌+◌, ◌-◌}
use Rattle.sctp_tx_outstanding.specs.Passes.{IsWalk}
use Rattle.sctp_tx_outstanding.specs.Flights.{NoneFlies}
use Rattle.sctp_tx_outstanding.proofs.sack.pass_idle.Given as goal

abbrev pub invariant-loop-next : goal.invariant-loop-next
invariant-loop-next l = record {
  cursor : IsWalk l.are_in_order l.blocks (l.next + 1) l.block;
  onward : l.place ≤ l.next;
  none : NoneFlies l.place l.next l.kept.items;
}

abbrev pub decreases-loop-next : goal.decreases-loop-next
decreases-loop-next l = l.count - l.next
