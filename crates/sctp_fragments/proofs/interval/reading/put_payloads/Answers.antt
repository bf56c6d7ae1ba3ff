use Rattle.std.proofs.Common.{◌++◌, ap, ◌∙◌, arith}
use Rattle.sctp_fragments.specs.Interval.{held_of}
use Rattle.sctp_fragments.proofs.PlaceLemmas.{payload_step}
use Rattle.sctp_fragments.proofs.interval.reading.put_payloads.Goals as goal

pub loop-index-preserved : goal.loop-index-preserved
loop-index-preserved g c =
    payload_step (held_of g.K.ReassemblyKey.number g.K.ReassemblyKey.index) c.args.entries.now.items c.loop-index.index c.index.result.now c.loop-index.payload.items _ _ (omega (arith, c.loop-index-test.true, c.len-index-end.ensures, c.args.entries.now.ok.0)) c.index.ensures
    (c.in_ok-extend_from_slice.ensures.items ∙ ap (λ t. c.loop-index.payload.items ++ t) c.deref.ensures.value) c.loop-index.invariant
