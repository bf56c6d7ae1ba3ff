use Rattle.std.proofs.Common.{refl}
use Rattle.sctp_endpoint.proofs.GoesOnLemmas.{goes_on_from, goes_on_through}
use Rattle.sctp_endpoint.proofs.GrownLemmas.{sack_events, partly_acknowledged_events}
use Rattle.sctp_transfer.proofs.sack.sack_open.Goals as goal

pub returns-in_err-answer-clause-goes_on : goal.returns-in_err-answer-clause-goes_on
returns-in_err-answer-clause-goes_on g c =
    goes_on_from c.args.context.now _ _ c.context.view_is (partly_acknowledged_events _ _ _ _ _ _ c.in_err-answer.ensures.err) refl

pub returns-clause-goes_on : goal.returns-clause-goes_on
returns-clause-goes_on g c =
    goes_on_through c.args.context.now _ _ (goes_on_from c.args.context.now _ _ c.context.view_is
    (sack_events _ _ c.args.tcb.now.retransmission_queue c.context.inside.events c.handle_sack.new.events c.in_ok-answer.ensures.emitted) refl) c.after_sack.ensures.goes_on
