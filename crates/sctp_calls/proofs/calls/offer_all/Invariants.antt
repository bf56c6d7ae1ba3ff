use Rattle.std.proofs.Common.{◌≡◌, ◌++◌, map}
use Rattle.sctp_serial.specs.Messages.{message_of}
use Rattle.sctp_state.specs.Options.{send_options_of}
use Rattle.spec_endpoint.specs.Calls.{offer_all, refusals}
use Rattle.sctp_endpoint.specs.GoesOn.{GrownQuietly}
use Rattle.sctp_endpoint.specs.Views.{context_of}
use Rattle.sctp_calls.proofs.calls.offer_all.Given as goal

abbrev pub invariant-loop-place : goal.invariant-loop-place
invariant-loop-place g l = record {
  offered : offer_all (map message_of l.place-iterator.iter.rest.items) (send_options_of l.options) l.shown (context_of g.C.Checksum.word_of l.context)
      ≡ offer_all (map message_of l.fn.messages.items) (send_options_of l.options) l.shown (context_of g.C.Checksum.word_of l.fn.context);
  refused : l.refusals.items ++ refusals l.place-iterator.count (map message_of l.place-iterator.iter.rest.items) (send_options_of l.options) l.shown (context_of g.C.Checksum.word_of l.context)
      ≡ refusals 0 (map message_of l.fn.messages.items) (send_options_of l.options) l.shown (context_of g.C.Checksum.word_of l.fn.context);
  grown : GrownQuietly l.fn.context.emitted l.context.emitted;
}
