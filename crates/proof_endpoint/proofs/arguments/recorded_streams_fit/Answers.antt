use Rattle.std.proofs.Common.{ℕ, ◌<◌, ◌^◌}
use Rattle.sctp_state.specs.declared.api.handover.HandoverOutgoingStream.{HandoverOutgoingStream}
use Rattle.spec_endpoint.proofs.ArgumentLemmas.{seen_at, seen_all, each_of_map}
use Rattle.proof_endpoint.proofs.arguments.recorded_streams_fit.Goals as goal

pub loop-stream-init : goal.loop-stream-init
loop-stream-init c = tt

pub loop-stream-preserved : goal.loop-stream-preserved
loop-stream-preserved c =
    seen_at (λ (id : ℕ). id < 2 ^ 16) (λ (s : HandoverOutgoingStream). s.id) c.args.streams.now c.loop-stream.stream-index _ c.loop-stream-test.true c.loop-stream.invariant
    c.a_recorded_stream_fits.ensures.fits

pub returns : goal.returns
returns c = record { fit = each_of_map (λ (id : ℕ). id < 2 ^ 16) (λ (s : HandoverOutgoingStream). s.id) c.args.streams.now (seen_all (λ (id : ℕ). id < 2 ^ 16) (λ (s : HandoverOutgoingStream). s.id) c.args.streams.now c.loop-stream.stream-index c.loop-stream-test.false c.loop-stream.invariant) }
