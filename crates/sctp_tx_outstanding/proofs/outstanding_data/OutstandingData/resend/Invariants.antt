use Rattle.std.proofs.Common.{◌≡◌, ◌≤◌, ◌-◌}
use Rattle.sctp_tx_outstanding.specs.Views.{resent_of}
use Rattle.sctp_tx_outstanding.specs.Resending.{resent_below}
use Rattle.sctp_tx_outstanding.proofs.outstanding_data.OutstandingData.resend.Given as goal

abbrev pub invariant-loop-place : goal.invariant-loop-place
invariant-loop-place l = record {
  within : l.place ≤ l.count;
  resent : resent_of l.self l.filling ≡ resent_below l.fast l.place (resent_of l.initial.self l.initial.filling);
}

abbrev pub decreases-loop-place : goal.decreases-loop-place
decreases-loop-place l = l.count - l.place
