use Rattle.std.proofs.Common.{◌∙◌}
use Rattle.sctp_tx_queue.proofs.RestoreLemmas.{scheduled_next}
use Rattle.sctp_tx_queue.proofs.send_queue.restoring.schedule_all.Goals as goal

pub loop-stream-preserved : goal.loop-stream-preserved
loop-stream-preserved c =
    scheduled_next c.loop-stream.stream-index c.sendable-bytes.result c.priority-priority.result c.args.records.now (record { id = 0; next_ssn = 0; next_unordered_mid = 0; next_ordered_mid = 0; priority = 0 })
    c.args.streams.now c.loop-stream.scheduler c.set_bytes_remaining.new.self c.loop-stream-test.true c.sendable-bytes.ensures c.priority-priority.ensures c.in_ok-set_bytes_remaining.ensures.ok
    ∙ c.loop-stream.invariant
