use Rattle.std.proofs.Common.{◌≡◌, drop}
use Rattle.std.specs.Prelude.{map}
use Rattle.sctp_state.specs.Handover.{stream_message_of}
use Rattle.sctp_tx_queue.specs.Restored.{partly_sent}
use Rattle.sctp_tx_queue.proofs.send_queue.restoring.partly_sent.Given as goal

abbrev pub invariant-loop-message : goal.invariant-loop-message
invariant-loop-message l = partly_sent (map stream_message_of (drop l.message-index l.messages)) ≡ partly_sent (map stream_message_of l.messages)
