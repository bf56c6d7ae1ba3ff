use Rattle.std.proofs.Common.{◌≡◌, ◌≤◌, take, map}
use Rattle.sctp_state.specs.Handover.{stream_message_of}
use Rattle.sctp_state.specs.Validity.{partly_sent_count}
use Rattle.sctp_state.proofs.api.handover.validity.partly_sent_count.Given as goal

abbrev pub invariant-messages : goal.invariant-messages
invariant-messages l = (l.count ≡ partly_sent_count (map stream_message_of (take l.message-index l.messages))) × (l.count ≤ l.message-index)
