use Rattle.std.proofs.Common.{◌≡◌, drop, map}
use Rattle.sctp_state.specs.Handover.{stream_message_of}
use Rattle.sctp_state.specs.Validity.{has_message_id}
use Rattle.sctp_state.proofs.api.handover.validity.has_message_id.Given as goal

abbrev pub invariant-messages : goal.invariant-messages
invariant-messages l = has_message_id l.id (map stream_message_of (drop l.message-index l.messages)) ≡ has_message_id l.id (map stream_message_of l.messages)
