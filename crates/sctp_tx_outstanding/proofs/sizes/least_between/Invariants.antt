use Rattle.std.proofs.Common.{ℕ, ◌≤◌, ◌<◌, ◌-◌}
use Rattle.sctp_tx_outstanding.specs.Sizes.{IsLargeAt}
use Rattle.sctp_tx_outstanding.proofs.sizes.least_between.Given as goal

abbrev pub invariant-loop-place : goal.invariant-loop-place
invariant-loop-place l = record {
  onward : l.from ≤ l.place;
  large : (k : ℕ) → l.from ≤ k → k < l.place → IsLargeAt l.least k l.items.items;
}

abbrev pub decreases-loop-place : goal.decreases-loop-place
decreases-loop-place l = l.to - l.place
