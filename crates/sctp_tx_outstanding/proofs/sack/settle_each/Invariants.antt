use Rattle.std.proofs.Common.{◌≡◌, ◌-◌, ◌≤◌, List, length}
use Rattle.sctp_chunk.specs.declared.sack.GapAckBlock.{GapAckBlock}
use Rattle.sctp_tx_outstanding.specs.Passes.{AllAre, Advances}
use Rattle.sctp_tx_outstanding.proofs.sack.settle_each.Given as goal

abbrev pub invariant-loop-place : goal.invariant-loop-place
invariant-loop-place l = record {
  mode : l.kept.is_interleaved ≡ l.initial.kept.is_interleaved;
  onward : l.from ≤ l.place;
  within : l.place ≤ l.to;
  length : length l.kept.items ≡ length l.initial.kept.items;
  settled : (blocks : List GapAckBlock) → AllAre l.is_covered blocks 1 l.from l.to → Advances blocks l.initial.kept.is_interleaved l.from l.place l.fn.covered l.found l.initial.kept.items l.kept.items;
}

abbrev pub decreases-loop-place : goal.decreases-loop-place
decreases-loop-place l = l.to - l.place
