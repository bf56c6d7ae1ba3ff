use Rattle.std.proofs.Common.{◌≡◌, drop, map}
use Rattle.sctp_state.specs.Handover.{stream_message_of}
use Rattle.sctp_state.specs.Validity.{message_ids_differ}
use Rattle.sctp_state.proofs.api.handover.validity.later_ids_differ.Given as goal

abbrev pub invariant-places : goal.invariant-places
invariant-places l = message_ids_differ (map stream_message_of (drop l.i l.messages)) ≡ message_ids_differ (map stream_message_of l.messages)
