use Rattle.std.proofs.Common.{◌≡◌, ℕ, ◌+◌, ◌<◌, ◌≤◌, drop, length}
use Rattle.sctp_chunk.specs.Covered.{is_covered}
use Rattle.sctp_tx_outstanding.proofs.stretches.border.Given as goal

abbrev pub invariant-loop-left : goal.invariant-loop-left
invariant-loop-left l = record {
  within : l.left ≤ length l.blocks;
  onward : l.place < l.next;
  alike : (p : ℕ) → l.place ≤ p → p < l.next → is_covered (drop l.left l.blocks) (p + 1) ≡ is_covered (drop l.left l.blocks) (l.place + 1);
}

abbrev pub decreases-loop-left : goal.decreases-loop-left
decreases-loop-left l = l.left
