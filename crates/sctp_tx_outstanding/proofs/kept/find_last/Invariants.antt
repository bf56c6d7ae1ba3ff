use Rattle.std.proofs.Common.{◌≡◌, ◌≤◌, ◌-◌, drop}
use Rattle.std.specs.Prelude.{option_map}
use Rattle.sctp_tx_outstanding.specs.OutstandingData.{last_of, later_of}
use Rattle.sctp_tx_outstanding.specs.Views.{last_tree}
use Rattle.sctp_tx_outstanding.proofs.kept.find_last.Given as goal

abbrev pub invariant-loop-place : goal.invariant-loop-place
invariant-loop-place l = record {
  within : l.place ≤ l.count;
  last : later_of l.message_id.0 (option_map last_tree l.last) (drop l.place l.items.items) ≡ last_of l.message_id.0 l.items.items;
}

abbrev pub decreases-loop-place : goal.decreases-loop-place
decreases-loop-place l = l.count - l.place
