use Rattle.std.proofs.Common.{◌≡◌, ◌≤◌, ◌++◌, length}
use Rattle.std.specs.Prelude.{map}
use Rattle.sctp_tx_queue.proofs.send_queue.ready_ids.first_ids.Given as goal

abbrev pub invariant-loop-id : goal.invariant-loop-id
invariant-loop-id l = record {
  listed : map (λ id. id.0) l.ids.items ++ l.id-iterator ≡ l.ready.keys;
  few : length l.ids.items ≤ l.most;
}
