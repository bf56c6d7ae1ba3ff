use Rattle.std.proofs.Common.{◌≡◌, ◌-◌, ◌^◌, min, take, map}
use Rattle.sctp_state.specs.Handover.{stream_message_of}
use Rattle.sctp_state.specs.Validity.{queued_bytes}
use Rattle.sctp_state.proofs.api.handover.validity.queued_bytes.Given as goal

abbrev pub invariant-messages : goal.invariant-messages
invariant-messages l = l.bytes ≡ min (queued_bytes (map stream_message_of (take l.message-index l.messages))) (2 ^ 64 - 1)
