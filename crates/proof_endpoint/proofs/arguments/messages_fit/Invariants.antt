use Rattle.std.proofs.Common.{map, take}
use Rattle.sctp_serial.specs.Messages.{message_of}
use Rattle.sctp_packet.specs.Grammar.{Each}
use Rattle.proof_endpoint.specs.Sound.{FitsMessage}
use Rattle.proof_endpoint.proofs.arguments.messages_fit.Given as goal

abbrev pub invariant-loop-message : goal.invariant-loop-message
invariant-loop-message l = Each FitsMessage (map message_of (take l.message-index l.messages))
