use Rattle.std.proofs.Common.{◌≡◌, drop, map}
use Rattle.sctp_state.specs.Handover.{stream_message_of}
use Rattle.sctp_state.specs.Validity.{first_alone_is_partly_sent}
use Rattle.sctp_state.proofs.ValidityLemmas.{none_is_partly_sent_on}
use Rattle.sctp_state.proofs.api.handover.validity.none_is_partly_sent_on_met.Given as goal

abbrev pub invariant-messages : goal.invariant-messages
invariant-messages l = none_is_partly_sent_on l.met (map stream_message_of (drop l.message-index l.messages)) ≡ first_alone_is_partly_sent (map stream_message_of l.messages)
