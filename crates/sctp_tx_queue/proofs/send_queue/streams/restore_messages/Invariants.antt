use Rattle.std.proofs.Common.{◌≡◌, ◌+◌, ◌<◌, ◌^◌, drop, take, true}
use Rattle.std.specs.Prelude.{map}
use Rattle.sctp_state.specs.Handover.{stream_message_of}
use Rattle.sctp_state.specs.Validity.{are_valid_messages, queued_bytes}
use Rattle.sctp_tx_queue.specs.SendQueue.{total_of}
use Rattle.sctp_tx_queue.proofs.RestoreLemmas.{holding}
use Rattle.sctp_tx_queue.proofs.send_queue.streams.restore_messages.Given as goal

abbrev pub invariant-loop-message : goal.invariant-loop-message
invariant-loop-message l = record {
  done : l.streams ≡ holding l.now l.records (map stream_message_of (take l.message-index l.messages)) l.initial.streams;
  valid : are_valid_messages l.records (2 ^ 32) (map stream_message_of (drop l.message-index l.messages)) ≡ true;
  small : total_of l.streams.entries + queued_bytes (map stream_message_of (drop l.message-index l.messages)) < 2 ^ 32;
}
