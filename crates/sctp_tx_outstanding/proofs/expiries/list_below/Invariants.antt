use Rattle.std.proofs.Common.{◌-◌, ◌≤◌}
use Rattle.sctp_tx_outstanding.specs.Expiries.{ListsUpTo}
use Rattle.sctp_tx_outstanding.proofs.expiries.list_below.Given as goal

abbrev pub invariant-loop-from : goal.invariant-loop-from
invariant-loop-from l = record {
  within : l.from ≤ l.end;
  listed : ListsUpTo l.from l.first l.keys.keys l.places.keys;
}

abbrev pub decreases-loop-from : goal.decreases-loop-from
decreases-loop-from l = l.end - l.from
