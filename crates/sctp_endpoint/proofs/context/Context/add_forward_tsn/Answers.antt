use Rattle.std.proofs.Common.{refl}
use Rattle.sctp_endpoint.proofs.GoesOnLemmas.{goes_on_from, goes_on_through}
use Rattle.sctp_endpoint.proofs.GrownLemmas.{expired_events_stand, partly_expired_events}
use Rattle.sctp_endpoint.proofs.context.Context.add_forward_tsn.Goals as goal

pub returns-in_err-should_send_forward_tsn-clause-goes_on : goal.returns-in_err-should_send_forward_tsn-clause-goes_on
returns-in_err-should_send_forward_tsn-clause-goes_on g c =
    goes_on_from c.args.self.now _ _ c.self.view_is (partly_expired_events c.self.inside.clock c.args.tcb.now.retransmission_queue c.self.inside.events
    c.should_send_forward_tsn.new.self c.should_send_forward_tsn.new.events c.in_err-should_send_forward_tsn.ensures.err) refl

pub returns-in_err-push_forward_tsn-clause-goes_on : goal.returns-in_err-push_forward_tsn-clause-goes_on
returns-in_err-push_forward_tsn-clause-goes_on g c =
    goes_on_through c.args.self.now _ _ (goes_on_from c.args.self.now _ _ c.self.view_is (expired_events_stand c.self.inside.clock c.args.tcb.now.retransmission_queue
    c.self.inside.events c.should_send_forward_tsn.new.events c.in_ok-should_send_forward_tsn.ensures.emitted) refl) c.push_forward_tsn.ensures.goes_on

pub returns-in_ok-push_forward_tsn-clause-goes_on : goal.returns-in_ok-push_forward_tsn-clause-goes_on
returns-in_ok-push_forward_tsn-clause-goes_on g c =
    goes_on_through c.args.self.now _ _ (goes_on_from c.args.self.now _ _ c.self.view_is (expired_events_stand c.self.inside.clock c.args.tcb.now.retransmission_queue
    c.self.inside.events c.should_send_forward_tsn.new.events c.in_ok-should_send_forward_tsn.ensures.emitted) refl) c.push_forward_tsn.ensures.goes_on

pub returns-else-branch-clause-goes_on : goal.returns-else-branch-clause-goes_on
returns-else-branch-clause-goes_on g c =
    goes_on_from c.args.self.now _ _ c.self.view_is (expired_events_stand c.self.inside.clock c.args.tcb.now.retransmission_queue
    c.self.inside.events c.should_send_forward_tsn.new.events c.in_ok-should_send_forward_tsn.ensures.emitted) refl
