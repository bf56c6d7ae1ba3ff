use Rattle.std.proofs.Common.{◌≡◌, ◌++◌}
use Rattle.std.specs.Prelude.{map}
use Rattle.std.specs.Map.{keys_of}
use Rattle.sctp_tx_queue.proofs.send_queue.changes.stream_ids.Given as goal

abbrev pub invariant-loop-id : goal.invariant-loop-id
invariant-loop-id l = map (λ id. id.0) l.ids.items ++ keys_of l.id-iterator ≡ keys_of l.streams.entries
