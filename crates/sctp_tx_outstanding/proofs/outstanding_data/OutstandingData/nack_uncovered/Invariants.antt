use Rattle.std.proofs.Common.{◌≡◌, ◌≤◌, ◌+◌, ◌-◌}
use Rattle.sctp_tx_outstanding.specs.Losses.{first_step, nack_below}
use Rattle.sctp_tx_outstanding.specs.LastBlocks.{Rest}
use Rattle.sctp_tx_outstanding.specs.Passes.{IsWalk}
use Rattle.sctp_tx_outstanding.proofs.outstanding_data.OutstandingData.nack_uncovered.Given as goal

abbrev pub invariant-loop-place : goal.invariant-loop-place
invariant-loop-place l = record {
  within : l.place ≤ l.count;
  cursor : IsWalk l.are_in_order l.blocks (l.place + 1) l.from;
  items : l.self ≡ record l.initial.self { items = (nack_below l.indication l.fast l.place (first_step l.initial.self.items l.initial.events)).items };
  emitted : l.events ≡ (nack_below l.indication l.fast l.place (first_step l.initial.self.items l.initial.events)).emitted;
  lossy : l.is_lossy ≡ (nack_below l.indication l.fast l.place (first_step l.initial.self.items l.initial.events)).is_lossy;
  rest : Rest l.blocks 1 (nack_below l.indication l.fast l.place (first_step l.initial.self.items l.initial.events)).items.kept;
}

abbrev pub decreases-loop-place : goal.decreases-loop-place
decreases-loop-place l = l.count - l.place
