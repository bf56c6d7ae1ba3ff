use Rattle.std.proofs.Common.{◌≡◌, drop}
use Rattle.sctp_state.specs.Events.{numbers_of}
use Rattle.spec_endpoint.specs.StreamReset.{prepare_all}
use Rattle.sctp_endpoint.specs.GoesOn.{GoesOn}
use Rattle.sctp_endpoint.specs.Views.{context_of}
use Rattle.sctp_transfer.proofs.stream_reset.prepare_resets.Given as goal

abbrev pub invariant-loop-id : goal.invariant-loop-id
invariant-loop-id g l = record {
  prepared : prepare_all (numbers_of (drop l.id-index l.streams)) (context_of g.C.Checksum.word_of l.context)
      ≡ prepare_all (numbers_of l.streams) (context_of g.C.Checksum.word_of l.fn.context);
  goes_on : GoesOn l.fn.context l.context;
}
