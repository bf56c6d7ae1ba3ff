use Rattle.std.proofs.Common.{◌≡◌, ◌≤◌, drop, length}
use Rattle.sctp_tx_outstanding.specs.Sack.{highest_end}
use Rattle.sctp_tx_outstanding.proofs.sack.highest_end.Given as goal

abbrev pub invariant-loop-place : goal.invariant-loop-place
invariant-loop-place l = record {
  within : l.place ≤ length l.blocks;
  highest : l.highest ≡ highest_end (drop l.place l.blocks);
}

abbrev pub decreases-loop-place : goal.decreases-loop-place
decreases-loop-place l = l.place
