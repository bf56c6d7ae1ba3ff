use Rattle.sctp_tx_queue.proofs.SettledLemmas.{joined_more}
use Rattle.sctp_tx_queue.proofs.send_queue.changes.ChangedStreams.add_all.Goals as goal

pub loop-id-preserved : goal.loop-id-preserved
loop-id-preserved c = joined_more c.args.ids.now c.loop-id.id-index (record { 0 = 0 }) c.args.self.now c.loop-id.self c.add.new.self c.loop-id-test.true c.add.ensures c.loop-id.invariant
