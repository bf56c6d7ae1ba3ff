use Rattle.std.proofs.Common.{◌≡◌, drop, map}
use Rattle.sctp_state.specs.Handover.{stream_message_of}
use Rattle.sctp_state.specs.Validity.{message_ids_differ}
use Rattle.sctp_state.proofs.ValidityLemmas.{ids_differ_on}
use Rattle.sctp_state.proofs.api.handover.validity.met_ids_differ.Given as goal

abbrev pub invariant-messages : goal.invariant-messages
invariant-messages l = ids_differ_on l.met (map stream_message_of (drop l.message-index l.messages)) ≡ message_ids_differ (map stream_message_of l.messages)
