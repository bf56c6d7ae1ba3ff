use Rattle.std.proofs.Common.{◌≡◌, ◌≤◌, ◌++◌, length}
use Rattle.std.specs.Prelude.{map}
use Rattle.sctp_tx_queue.specs.Resets.{ready}
use Rattle.sctp_tx_queue.proofs.send_queue.streams.ready_streams.Given as goal

abbrev pub invariant-loop-id : goal.invariant-loop-id
invariant-loop-id l = record {
  listed : map (λ id. id.0) l.ids.items ++ ready l.id-iterator ≡ ready l.streams.entries;
  few : length l.ids.items ≤ l.most;
}
