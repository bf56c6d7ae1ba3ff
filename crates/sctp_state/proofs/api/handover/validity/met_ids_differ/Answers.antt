use Rattle.std.proofs.Common.{◌&&◌, Bool, ap, map, rules}
use Rattle.sctp_state.specs.Handover.{stream_message_of}
use Rattle.sctp_state.specs.Validity.{message_ids_differ}
use Rattle.sctp_state.proofs.ValidityLemmas.{message_id, always, none_met, next_id}
use Rattle.sctp_state.proofs.api.handover.validity.met_ids_differ.Goals as goal

pub messages-init : goal.messages-init
messages-init c =
    ap (λ (b : Bool). b && message_ids_differ (map stream_message_of c.args.messages.now)) (none_met message_id always c.new-met.result (map stream_message_of c.args.messages.now) c.new-met.ensures.empty)

pub messages-preserved : goal.messages-preserved
messages-preserved c =
    next_id c.args.messages.now c.messages.message-index c.message-item.result c.messages.met c.insert.new.self _ c.messages-test.true c.message-item.is (search rules) c.in_ok-insert.ensures.updates c.messages.invariant
