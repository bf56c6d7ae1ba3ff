use Rattle.std.proofs.Common.{◌≡◌, ◌++◌}
use Rattle.std.specs.Prelude.{map}
use Rattle.sctp_channels.proofs.channel_map.ids_of.Given as goal

abbrev pub invariant-loop-id : goal.invariant-loop-id
invariant-loop-id l = map (λ id. id.0) l.ids.items ++ l.id-iterator ≡ l.streams.keys
