use Rattle.std.proofs.Common.{◌∙◌}
use Rattle.sctp_tx_queue.proofs.EmptiedLemmas.{empty_each}
use Rattle.sctp_tx_queue.proofs.send_queue.SendQueue.empty_each.Goals as goal

pub loop-id-preserved : goal.loop-id-preserved
loop-id-preserved c =
    empty_each c.args.ids.now c.loop-id.id-index (record { 0 = 0 }) c.loop-id.self c.empty_one.new.self c.loop-id-test.true c.empty_one.ensures
    ∙ c.loop-id.invariant
