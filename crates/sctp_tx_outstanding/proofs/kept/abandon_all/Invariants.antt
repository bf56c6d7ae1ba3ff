use Rattle.std.proofs.Common.{◌≡◌, ◌≤◌, ◌-◌}
use Rattle.sctp_tx_outstanding.proofs.AbandonedItemsLemmas.{laid}
use Rattle.sctp_tx_outstanding.proofs.kept.abandon_all.Given as goal

abbrev pub invariant-loop-place : goal.invariant-loop-place
invariant-loop-place l = record {
  within : l.place ≤ l.count;
  mode : l.kept.is_interleaved ≡ l.initial.kept.is_interleaved;
  items : l.kept.items ≡ laid l.place l.message_id.0 l.initial.kept.items;
}

abbrev pub decreases-loop-place : goal.decreases-loop-place
decreases-loop-place l = l.count - l.place
