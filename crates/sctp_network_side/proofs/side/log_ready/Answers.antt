use Rattle.std.proofs.Common.{arith}
use Rattle.spec_endpoint.specs.Calls.{ready_in}
use Rattle.sctp_network_side.specs.SideView.{end_tree}
use Rattle.sctp_network_side.proofs.CutLemmas.{more_made}
use Rattle.sctp_network_side.proofs.EmittedLemmas.{message_logged}
use Rattle.sctp_network_side.proofs.side.log_ready.Goals as goal

pub loop-place-preserved : goal.loop-place-preserved
loop-place-preserved g c = record {
  end = c.loop-place.invariant.end;
  log = message_logged (end_tree c.args.end) (ready_in c.args.socket.now.state) c.loop-place.place _ _ _ (omega (arith, c.loop-place-test.true, c.loop-place.invariant.end))
      c.in_ok-log_message.ensures.log c.loop-place.invariant.log;
  begun = more_made _ _ _ _ c.loop-place.invariant.begun c.in_ok-log_message.ensures.log;
}
