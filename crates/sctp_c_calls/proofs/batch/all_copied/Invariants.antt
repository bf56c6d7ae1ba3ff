use Rattle.std.proofs.Common.{◌≡◌, ◌++◌, true, map, drop}
use Rattle.sctp_serial.specs.Messages.{message_of}
use Rattle.sctp_c_calls.specs.Batch.{given_message, have_streams}
use Rattle.sctp_c_calls.proofs.batch.all_copied.Given as goal

abbrev pub invariant-loop-message : goal.invariant-loop-message
invariant-loop-message l = record {
  copied : map message_of l.copies.items ++ map given_message (drop l.message-index l.messages) ≡ map given_message l.messages;
  streams : have_streams (drop l.message-index l.messages) ≡ true;
}
