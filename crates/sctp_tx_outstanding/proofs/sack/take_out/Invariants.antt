use Rattle.std.proofs.Common.{◌≡◌, ◌+◌, ◌-◌, ◌^◌, ◌<◌, min, take, drop, sum_by}
use Rattle.sctp_tx_outstanding.specs.Sack.{departing_part}
use Rattle.sctp_tx_outstanding.proofs.sack.take_out.Given as goal

abbrev pub invariant-loop-left : goal.invariant-loop-left
invariant-loop-left l = record {
  mode : l.kept.is_interleaved ≡ l.initial.kept.is_interleaved;
  fits : l.bytes < 2 ^ 64;
  items : drop l.left l.kept.items ≡ drop l.count l.initial.kept.items;
  bytes : min (l.bytes + sum_by (departing_part l.initial.kept.is_interleaved) (take l.left l.kept.items)) (2 ^ 64 - 1) ≡ min (sum_by (departing_part l.initial.kept.is_interleaved) (take l.count l.initial.kept.items)) (2 ^ 64 - 1);
}

abbrev pub decreases-loop-left : goal.decreases-loop-left
decreases-loop-left l = l.left
