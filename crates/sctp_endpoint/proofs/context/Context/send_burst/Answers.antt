use Rattle.std.proofs.Common.{◌==◌, true, sym, ap, ◌∙◌, arith, ℕ}
use Rattle.spec_endpoint.specs.Sending.{burst}
use Rattle.sctp_endpoint.specs.Views.{filling_of}
use Rattle.sctp_endpoint.proofs.GoesOnLemmas.{goes_on_through}
use Rattle.sctp_endpoint.proofs.BurstLemmas.{burst_on, burst_off, not_first}
use Rattle.sctp_endpoint.proofs.context.Context.send_burst.Goals as goal

pub loop-index-preserved : goal.loop-index-preserved
loop-index-preserved g c =
    let here = c.loop-index in
    let said = c.in_ok-send_packet.ensures in
    record {
      end = here.invariant.end;
      most = omega (arith, c.loop-index-test.true);
      rest = rw (not_first here.index) (sym (burst_on c.max_burst-index-end.result here.index (here.index == 0) c.args.is_alone c.in_ok-send_packet.field-0
          (filling_of g.C.Checksum.word_of here.packet here.tcb here.self) _ c.loop-index-test.true said.filling said.more c.if-not-branch.false) ∙ here.invariant.rest);
      goes_on = goes_on_through c.args.self.now here.self _ here.invariant.goes_on said.goes_on;
      received = said.received ∙ here.invariant.received;
      identity = said.identity ∙ here.invariant.identity;
    }

pub returns-then-not-branch-clause-ok : goal.returns-then-not-branch-clause-ok
returns-then-not-branch-clause-ok g c =
    let here = c.loop-index in
    let said = c.in_ok-send_packet.ensures in
    burst_off c.max_burst-index-end.result here.index (here.index == 0) c.args.is_alone c.in_ok-send_packet.field-0
    (filling_of g.C.Checksum.word_of here.packet here.tcb here.self) _ c.loop-index-test.true said.filling said.more c.if-not-branch.true
    ∙ (here.invariant.rest ∙ ap (λ (n : ℕ). burst n true c.args.is_alone (filling_of g.C.Checksum.word_of c.args.packet.now c.args.tcb.now c.args.self.now)) here.invariant.end)

pub returns-clause-goes_on : goal.returns-clause-goes_on
returns-clause-goes_on g c = c.loop-index.invariant.goes_on

pub returns-then-not-branch-clause-goes_on : goal.returns-then-not-branch-clause-goes_on
returns-then-not-branch-clause-goes_on g c = goes_on_through c.args.self.now c.loop-index.self _ c.loop-index.invariant.goes_on c.send_packet.ensures.goes_on

pub returns-in_err-send_packet-clause-goes_on : goal.returns-in_err-send_packet-clause-goes_on
returns-in_err-send_packet-clause-goes_on g c = goes_on_through c.args.self.now c.loop-index.self _ c.loop-index.invariant.goes_on c.send_packet.ensures.goes_on
