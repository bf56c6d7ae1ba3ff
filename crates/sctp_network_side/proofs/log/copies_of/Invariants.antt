use Rattle.std.proofs.Common.{◌≡◌, take, map}
use Rattle.sctp_serial.specs.Messages.{message_of}
use Rattle.sctp_network_side.proofs.log.copies_of.Given as goal

abbrev pub invariant-loop-message : goal.invariant-loop-message
invariant-loop-message l = map message_of l.copies.items ≡ map message_of (take l.message-index l.messages)
