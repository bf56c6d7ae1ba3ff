use Rattle.std.proofs.Common.{◌≡◌, drop, map}
use Rattle.sctp_state.specs.Handover.{stream_message_of}
use Rattle.sctp_state.specs.Validity.{are_valid_messages}
use Rattle.sctp_state.proofs.api.handover.validity.are_valid_messages.Given as goal

abbrev pub invariant-messages : goal.invariant-messages
invariant-messages l = are_valid_messages l.streams l.next (map stream_message_of (drop l.message-index l.messages)) ≡ are_valid_messages l.streams l.next (map stream_message_of l.messages)
