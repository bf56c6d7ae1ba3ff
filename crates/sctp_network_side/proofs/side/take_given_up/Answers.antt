use Rattle.std.proofs.Common.{ap, ◌∙◌}
use Rattle.sctp_association.specs.Socket.{SocketValue}
use Rattle.sctp_state.specs.Events.{given_up_of}
use Rattle.sctp_network_side.specs.SideView.{end_tree, without_records}
use Rattle.sctp_network_side.proofs.CutLemmas.{more_made}
use Rattle.sctp_network_side.proofs.EmittedLemmas.{given_up_taken}
use Rattle.sctp_network_side.proofs.side.take_given_up.Goals as goal

pub loop-given_up-preserved : goal.loop-given_up-preserved
loop-given_up-preserved g c = record {
  socket = ap without_records c.next_given_up.ensures.rest ∙ c.loop-given_up.invariant.socket;
  log = given_up_taken (end_tree c.args.end) (given_up_of c.in-Some.given_up) c.loop-given_up.socket.context.emitted.given_up c.next_given_up.new.self.context.emitted.given_up _ _
      c.in-Some.ensures.first (ap (λ (v : SocketValue _ _). v.context.emitted.given_up) c.next_given_up.ensures.rest) c.in_ok-log_given_up.ensures.log ∙ c.loop-given_up.invariant.log;
  begun = more_made _ _ _ _ c.loop-given_up.invariant.begun c.in_ok-log_given_up.ensures.log;
}
