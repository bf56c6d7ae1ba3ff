use Rattle.std.proofs.Common.{◌≡◌, ◌++◌}
use Rattle.std.specs.Prelude.{map}
use Rattle.std.specs.Map.{keys_of}
use Rattle.sctp_stream_scheduler.proofs.stream_scheduler.active_streams.keys.Given as goal

abbrev pub invariant-loop-id : goal.invariant-loop-id
invariant-loop-id l = map (λ id. id.0) l.ids.items ++ keys_of l.id-iterator ≡ keys_of l.finish_times.entries
