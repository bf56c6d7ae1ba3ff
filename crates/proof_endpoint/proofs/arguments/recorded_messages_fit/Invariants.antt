use Rattle.std.proofs.Common.{map, take}
use Rattle.sctp_packet.specs.Grammar.{Each}
use Rattle.sctp_state.specs.Handover.{stream_message_of}
use Rattle.proof_endpoint.specs.Sound.{FitsStreamMessage}
use Rattle.proof_endpoint.proofs.arguments.recorded_messages_fit.Given as goal

abbrev pub invariant-loop-message : goal.invariant-loop-message
invariant-loop-message l = Each FitsStreamMessage (map stream_message_of (take l.message-index l.messages))
