use Rattle.std.proofs.Common.{◌∙◌}
use Rattle.sctp_endpoint.specs.Views.{context_of}
use Rattle.sctp_endpoint.proofs.GoesOnLemmas.{goes_on_through}
use Rattle.sctp_transfer.proofs.PrepareLemmas.{prepare_each}
use Rattle.sctp_transfer.proofs.stream_reset.prepare_resets.Goals as goal

pub loop-id-preserved : goal.loop-id-preserved
loop-id-preserved g c =
    let word_of = g.C.Checksum.word_of in
    let was = c.loop-id.invariant in record {
      prepared = prepare_each c.args.streams.now c.loop-id.id-index (record { 0 = 0 }) (context_of word_of c.loop-id.context) (context_of word_of c.prepare_reset.new.context) c.loop-id-test.true
          c.in_ok-prepare_reset.ensures.ok ∙ was.prepared;
      goes_on = goes_on_through c.args.context.now c.loop-id.context c.prepare_reset.new.context was.goes_on c.in_ok-prepare_reset.ensures.goes_on;
    }
