use Rattle.std.proofs.Common.{◌≡◌, drop, map}
use Rattle.sctp_state.specs.Handover.{stream_message_of}
use Rattle.sctp_state.specs.Validity.{has_partly_sent}
use Rattle.sctp_state.proofs.api.handover.validity.has_partly_sent.Given as goal

abbrev pub invariant-messages : goal.invariant-messages
invariant-messages l = has_partly_sent l.stream_id (map stream_message_of (drop l.message-index l.messages)) ≡ has_partly_sent l.stream_id (map stream_message_of l.messages)
