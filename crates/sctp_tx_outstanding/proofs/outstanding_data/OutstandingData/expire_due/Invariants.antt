use Rattle.std.proofs.Common.{◌≡◌, ◌≤◌, ◌-◌}
use Rattle.sctp_tx_outstanding.specs.Losses.{first_step, expire_below}
use Rattle.sctp_tx_outstanding.proofs.outstanding_data.OutstandingData.expire_due.Given as goal

abbrev pub invariant-loop-place : goal.invariant-loop-place
invariant-loop-place l = record {
  within : l.place ≤ l.count;
  items : l.self ≡ record l.initial.self { items = (expire_below l.now l.place (first_step l.initial.self.items l.initial.events)).items };
  emitted : l.events ≡ (expire_below l.now l.place (first_step l.initial.self.items l.initial.events)).emitted;
}

abbrev pub decreases-loop-place : goal.decreases-loop-place
decreases-loop-place l = l.count - l.place
