use Rattle.std.proofs.Common.{◌∙◌}
use Rattle.sctp_tx_queue.specs.declared.send_queue.stream.ResetStep.TheVariants.{Requested}
use Rattle.sctp_tx_queue.proofs.ResetLemmas.{step_each}
use Rattle.sctp_tx_queue.proofs.send_queue.SendQueue.request.Goals as goal

pub loop-id-preserved : goal.loop-id-preserved
loop-id-preserved c =
    step_each Requested c.args.ids.now c.loop-id.id-index (record { 0 = 0 }) c.loop-id.self c.request_one.new.self c.loop-id-test.true c.request_one.ensures
    ∙ c.loop-id.invariant
