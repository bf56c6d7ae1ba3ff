use Rattle.std.proofs.Common.{length, drop, take, ◌++◌, ◌-◌, ◌≡◌, ◌≤◌}
use Rattle.sctp_rx.specs.DataTracker.{insert_number}
use Rattle.sctp_rx.proofs.data_tracker.duplicates.remember.Given as goal

abbrev pub invariant-loop-place : goal.invariant-loop-place
invariant-loop-place l = record {
  within : l.place ≤ length l.duplicates.items;
  same : insert_number l.number l.duplicates.items ≡ take l.place l.duplicates.items ++ insert_number l.number (drop l.place l.duplicates.items);
}

abbrev pub decreases-loop-place : goal.decreases-loop-place
decreases-loop-place l = length l.duplicates.items - l.place
