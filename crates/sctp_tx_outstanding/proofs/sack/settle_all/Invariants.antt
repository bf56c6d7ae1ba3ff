use Rattle.std.proofs.Common.{◌≡◌, ◌+◌, ◌-◌, ◌≤◌}
use Rattle.sctp_tx_outstanding.specs.Passes.{IsWalk, Advances}
use Rattle.sctp_tx_outstanding.proofs.sack.settle_all.Given as goal

abbrev pub invariant-loop-walk : goal.invariant-loop-walk
invariant-loop-walk l = record {
  mode : l.kept.is_interleaved ≡ l.initial.kept.is_interleaved;
  within : l.walk.place ≤ l.count;
  earlier : IsWalk l.last.is_known l.last.gap_ack_blocks.items (l.walk.place + l.last.offset) l.walk.earlier;
  later : IsWalk l.are_in_order l.blocks (l.walk.place + 1) l.walk.later;
  settled : Advances l.blocks l.initial.kept.is_interleaved 0 l.walk.place (record { bytes = 0; below = 0 }) l.walk.covered l.initial.kept.items l.kept.items;
}

abbrev pub decreases-loop-walk : goal.decreases-loop-walk
decreases-loop-walk l = l.count - l.walk.place
