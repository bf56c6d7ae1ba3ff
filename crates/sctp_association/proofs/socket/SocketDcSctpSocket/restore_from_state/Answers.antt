use Rattle.sctp_state.specs.Handover.{handover_state_of}
use Rattle.sctp_association.proofs.StandsLemmas.{restoring_err}
use Rattle.sctp_association.proofs.socket.SocketDcSctpSocket.restore_from_state.Goals as goal

pub returns-in_err-ended-clause-at_memory : goal.returns-in_err-ended-clause-at_memory
returns-in_err-ended-clause-at_memory g c =
    restoring_err _ (handover_state_of c.args.state.now) _ _ c.self.view_is _ c.restore-answer.ensures.goes_on c.restore-answer.ensures.association c.restore-answer.ensures.ready
