use Rattle.std.proofs.Common.{◌&&◌, Bool, ap, map, rules}
use Rattle.sctp_state.specs.Handover.{stream_message_of}
use Rattle.sctp_state.specs.Validity.{is_partly_sent, first_alone_is_partly_sent}
use Rattle.sctp_state.proofs.ValidityLemmas.{stream_id, first_by_set, first_by_offset, none_met, next_stream}
use Rattle.sctp_state.proofs.api.handover.validity.none_is_partly_sent_on_met.Goals as goal
use Rattle.sctp_state.proofs.api.handover.validity.none_is_partly_sent_on_met.Goals.{else-message-gt0-via-then-message-gt0+else-contains, else-message-gt0-via-else-message-gt0}

pub messages-init : goal.messages-init
messages-init c =
    ap (λ (b : Bool). b && first_alone_is_partly_sent (map stream_message_of c.args.messages.now)) (none_met stream_id is_partly_sent c.new-met.result (map stream_message_of c.args.messages.now) c.new-met.ensures.empty)

pub messages-preserved : goal.messages-preserved
messages-preserved c =
    next_stream c.args.messages.now c.messages.message-index c.message-item.result c.messages.met c.insert.new.self _ c.messages-test.true c.message-item.is
    (elim c.else-message-gt0.branch [
      | else-message-gt0-via-then-message-gt0+else-contains w ↦ first_by_set (is_partly_sent (stream_message_of c.message-item.result)) _ (search rules)
      | else-message-gt0-via-else-message-gt0 w ↦ first_by_offset (stream_message_of c.message-item.result) _ w.if-message-gt0.false
    ])
    c.in_ok-insert.ensures.updates c.messages.invariant
