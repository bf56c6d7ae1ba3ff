use Rattle.std.proofs.Common.{◌≡◌}
use Rattle.sctp_tx_outstanding.specs.Losses.{first_step, nack_below}
use Rattle.sctp_tx_outstanding.proofs.outstanding_data.OutstandingData.nack_below.Given as goal

abbrev pub invariant-loop-place : goal.invariant-loop-place
invariant-loop-place l = record {
  items : l.self ≡ record l.initial.self { items = (nack_below l.indication l.fast l.place (first_step l.initial.self.items l.initial.events)).items };
  emitted : l.events ≡ (nack_below l.indication l.fast l.place (first_step l.initial.self.items l.initial.events)).emitted;
  lossy : l.is_lossy ≡ (nack_below l.indication l.fast l.place (first_step l.initial.self.items l.initial.events)).is_lossy;
}
