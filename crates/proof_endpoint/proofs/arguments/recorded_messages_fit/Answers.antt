use Rattle.sctp_state.specs.Handover.{stream_message_of}
use Rattle.proof_endpoint.specs.Sound.{FitsStreamMessage}
use Rattle.spec_endpoint.proofs.ArgumentLemmas.{seen_more, seen_all}
use Rattle.proof_endpoint.proofs.arguments.recorded_messages_fit.Goals as goal

pub loop-message-init : goal.loop-message-init
loop-message-init c = tt

pub loop-message-preserved : goal.loop-message-preserved
loop-message-preserved c =
    seen_more FitsStreamMessage stream_message_of c.args.messages.now c.loop-message.message-index c.message-item.result c.loop-message-test.true c.message-item.is c.loop-message.invariant
    c.a_recorded_message_fits.ensures.fits

pub returns : goal.returns
returns c = record { fit = seen_all FitsStreamMessage stream_message_of c.args.messages.now c.loop-message.message-index c.loop-message-test.false c.loop-message.invariant }
