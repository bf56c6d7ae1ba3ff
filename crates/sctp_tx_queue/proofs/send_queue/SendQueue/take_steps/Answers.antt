use Rattle.std.proofs.Common.{◌∙◌, rules}
use Rattle.std.specs.Prelude.{map}
use Rattle.sctp_tx_queue.specs.Interrupted.{SomeStepped}
use Rattle.sctp_tx_queue.proofs.ResetLemmas.{step_each, stepped_more}
use Rattle.sctp_tx_queue.proofs.send_queue.SendQueue.take_steps.Goals as goal

pub loop-id-preserved : goal.loop-id-preserved
loop-id-preserved c = record {
  rest =
      step_each c.args.step c.args.ids.now c.loop-id.id-index (record { 0 = 0 }) c.loop-id.self c.take_step.new.self c.loop-id-test.true c.in_ok-take_step.ensures.ok
      ∙ c.loop-id.invariant.rest;
  done =
      stepped_more c.args.step c.args.ids.now c.loop-id.id-index (record { 0 = 0 }) c.args.self.now c.loop-id.self c.take_step.new.self c.loop-id-test.true c.loop-id.invariant.done c.in_ok-take_step.ensures.ok;
}

pub returns-in_err-take_step-clause-err : goal.returns-in_err-take_step-clause-err
returns-in_err-take_step-clause-err c =
    let some : SomeStepped c.args.step (map (λ id. id.0) c.args.ids.now) c.args.self.now c.take_step.new.self = (c.loop-id.id-index, c.in_err-take_step.ensures.err ∙ c.loop-id.invariant.done) in
    search (rules, some)
