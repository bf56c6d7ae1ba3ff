use Rattle.std.proofs.Common.{◌≡◌, ◌++◌}
use Rattle.std.specs.Prelude.{map}
use Rattle.sctp_state.specs.Handover.{stream_message_of}
use Rattle.sctp_tx_queue.specs.Handover.{queued_messages}
use Rattle.sctp_tx_queue.proofs.send_queue.streams.queued_messages.Given as goal

abbrev pub invariant-loop-id : goal.invariant-loop-id
invariant-loop-id l = map stream_message_of l.records.items ++ queued_messages l.now l.id-iterator ≡ queued_messages l.now l.streams.entries
