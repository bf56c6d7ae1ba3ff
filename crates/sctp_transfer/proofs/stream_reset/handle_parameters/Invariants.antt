use Rattle.std.proofs.Common.{◌≡◌, false, map}
use Rattle.sctp_parameter.specs.ParameterViews.{parameter_tree}
use Rattle.sctp_rx.specs.Delivery.{Extends}
use Rattle.spec_endpoint.specs.StreamReset.{handle_all}
use Rattle.sctp_endpoint.specs.GoesOn.{GoesOn}
use Rattle.sctp_endpoint.specs.Views.{handling_of}
use Rattle.sctp_transfer.proofs.stream_reset.handle_parameters.Given as goal

abbrev pub invariant-loop-parameter : goal.invariant-loop-parameter
invariant-loop-parameter g l = record {
  handled : handle_all (map parameter_tree l.parameter-iterator.rest.items) l.has_outgoing (handling_of g.C.Checksum.word_of l.tcb l.context (map parameter_tree l.responses.items))
      ≡ handle_all (map parameter_tree l.fn.parameters.items) false (handling_of g.C.Checksum.word_of l.fn.tcb l.fn.context (map parameter_tree l.fn.responses.items));
  goes_on : GoesOn l.fn.context l.context;
  ready : Extends l.fn.tcb.reassembly_queue.ready l.tcb.reassembly_queue.ready;
  identity : l.tcb.identity ≡ l.fn.tcb.identity;
}
