use Rattle.std.proofs.Common.{ℕ, ◌<◌, ◌^◌, map, take}
use Rattle.sctp_serial.specs.declared.api.StreamId.{StreamId}
use Rattle.sctp_packet.specs.Grammar.{Each}
use Rattle.proof_endpoint.proofs.arguments.streams_fit.Given as goal

abbrev pub invariant-loop-stream : goal.invariant-loop-stream
invariant-loop-stream l = Each (λ (id : ℕ). id < 2 ^ 16) (map (λ (id : StreamId). id.0) (take l.stream-index l.streams))
