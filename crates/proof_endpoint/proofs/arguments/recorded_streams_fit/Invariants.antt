use Rattle.std.proofs.Common.{ℕ, ◌<◌, ◌^◌, map, take}
use Rattle.sctp_packet.specs.Grammar.{Each}
use Rattle.sctp_state.specs.declared.api.handover.HandoverOutgoingStream.{HandoverOutgoingStream}
use Rattle.proof_endpoint.proofs.arguments.recorded_streams_fit.Given as goal

abbrev pub invariant-loop-stream : goal.invariant-loop-stream
invariant-loop-stream l = Each (λ (id : ℕ). id < 2 ^ 16) (map (λ (s : HandoverOutgoingStream). s.id) (take l.stream-index l.streams))
