use Rattle.std.proofs.Common.{◌≤◌, ◌-◌}
use Rattle.sctp_tx_outstanding.specs.Sizes.{NoneFits}
use Rattle.sctp_tx_outstanding.proofs.sizes.first_fitting.Given as goal

abbrev pub invariant-loop-place : goal.invariant-loop-place
invariant-loop-place l = record {
  onward : l.from ≤ l.place;
  none : NoneFits l.is_interleaved l.allowed l.from l.place l.items.items;
}

abbrev pub decreases-loop-place : goal.decreases-loop-place
decreases-loop-place l = l.to - l.place
