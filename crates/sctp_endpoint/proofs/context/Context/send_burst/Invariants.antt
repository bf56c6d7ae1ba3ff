use Rattle.std.proofs.Common.{◌≡◌, ◌-◌, ◌==◌, ◌≤◌, true}
use Rattle.spec_endpoint.specs.Sending.{burst}
use Rattle.sctp_endpoint.specs.GoesOn.{GoesOn}
use Rattle.sctp_endpoint.specs.Views.{filling_of}
use Rattle.sctp_endpoint.proofs.context.Context.send_burst.Given as goal

-- the packets that may still go
abbrev pub invariant-loop-index : goal.invariant-loop-index
invariant-loop-index g l = record {
  end : l.index-end ≡ l.fn.self.options.max_burst;
  most : l.index ≤ l.index-end;
  rest : burst (l.index-end - l.index) (l.index == 0) l.is_alone (filling_of g.C.Checksum.word_of l.packet l.tcb l.self)
      ≡ burst l.index-end true l.is_alone (filling_of g.C.Checksum.word_of l.fn.packet l.fn.tcb l.fn.self);
  goes_on : GoesOn l.fn.self l.self;
  received : l.tcb.reassembly_queue ≡ l.fn.tcb.reassembly_queue;
  identity : l.tcb.identity ≡ l.fn.tcb.identity;
}
