use Rattle.std.proofs.Common.{◌≡◌, drop, map}
use Rattle.sctp_state.specs.Handover.{stream_message_of}
use Rattle.sctp_state.specs.Validity.{first_alone_is_partly_sent}
use Rattle.sctp_state.proofs.api.handover.validity.none_is_partly_sent_later.Given as goal

abbrev pub invariant-places : goal.invariant-places
invariant-places l = first_alone_is_partly_sent (map stream_message_of (drop l.i l.messages)) ≡ first_alone_is_partly_sent (map stream_message_of l.messages)
