use Rattle.std.proofs.Common.{ap, refl, Ok}
use Rattle.sctp_endpoint.proofs.GoesOnLemmas.{goes_on_from}
use Rattle.sctp_endpoint.proofs.GrownLemmas.{timed_out_events, partly_timed_out_events}
use Rattle.sctp_endpoint.proofs.QuietLemmas.{quietly_as, quietly_same}
use Rattle.sctp_supervision.proofs.timers.tick_t3.Goals as goal

pub returns-in_err-handle_timeout-clause-goes_on : goal.returns-in_err-handle_timeout-clause-goes_on
returns-in_err-handle_timeout-clause-goes_on g c =
    goes_on_from c.args.context.now _ _ c.context.view_is (partly_timed_out_events _ _ _ _ _ c.in_err-handle_timeout.ensures.err) refl

pub returns-then-branch-clause-goes_on : goal.returns-then-branch-clause-goes_on
returns-then-branch-clause-goes_on g c =
    goes_on_from c.args.context.now _ _ c.context.view_is (timed_out_events c.args.tcb.now.retransmission_queue c.context.inside.events c.handle_timeout.new.events
    (c.in_ok-handle_timeout.ensures.emitted (ap Ok c.if-branch.true))) refl

pub returns-clause-goes_on : goal.returns-clause-goes_on
returns-clause-goes_on g c =
    goes_on_from c.args.context.now _ _ c.context.view_is (quietly_as c.context.inside.events c.context.inside.events c.handle_timeout.new.events
    (c.in_ok-handle_timeout.ensures.silent (ap Ok c.if-branch.false)) (quietly_same c.context.inside.events)) refl
