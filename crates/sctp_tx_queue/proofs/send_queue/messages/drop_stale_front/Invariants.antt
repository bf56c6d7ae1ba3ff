use Rattle.std.proofs.Common.{◌≡◌, ◌≤◌, length, sum_by}
use Rattle.sctp_tx_queue.specs.SendQueue.{remaining_bytes}
use Rattle.sctp_tx_queue.specs.Produced.{fresh}
use Rattle.sctp_tx_queue.proofs.send_queue.messages.drop_stale_front.Given as goal

abbrev pub invariant-loop-now : goal.invariant-loop-now
invariant-loop-now l = record {
  messages : fresh l.now l.messages.items ≡ fresh l.now l.initial.messages.items;
  less : l.buffered.amount ≤ l.initial.buffered.amount;
  threshold : l.buffered.low_threshold ≡ l.initial.buffered.low_threshold;
  amount : l.buffered.amount ≡ sum_by remaining_bytes l.messages.items;
}

abbrev pub decreases-loop-now : goal.decreases-loop-now
decreases-loop-now l = length l.messages.items
