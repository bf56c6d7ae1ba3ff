use Rattle.std.proofs.Common.{◌≡◌, drop}
use Rattle.sctp_tx_queue.proofs.RestoreLemmas.{each_inserted}
use Rattle.sctp_tx_queue.proofs.send_queue.streams.restored_streams.Given as goal

abbrev pub invariant-loop-stream : goal.invariant-loop-stream
invariant-loop-stream l = each_inserted l.low_threshold (drop l.stream-index l.records) l.streams.entries ≡ each_inserted l.low_threshold l.records l.initial.streams.entries
