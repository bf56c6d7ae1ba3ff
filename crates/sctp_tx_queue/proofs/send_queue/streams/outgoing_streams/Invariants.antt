use Rattle.std.proofs.Common.{◌≡◌, ◌++◌}
use Rattle.sctp_tx_queue.specs.Handover.{outgoing_streams}
use Rattle.sctp_tx_queue.proofs.send_queue.streams.outgoing_streams.Given as goal

abbrev pub invariant-loop-id : goal.invariant-loop-id
invariant-loop-id l = l.records.items ++ outgoing_streams l.id-iterator ≡ outgoing_streams l.streams.entries
