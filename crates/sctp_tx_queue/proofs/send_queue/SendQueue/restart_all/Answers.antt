use Rattle.std.proofs.Common.{◌≡◌, ℕ, ◌∙◌, rules, take}
use Rattle.std.specs.Prelude.{map}
use Rattle.sctp_tx_queue.specs.Restarted.{each_restarted}
use Rattle.sctp_tx_queue.proofs.RestartLemmas.{restart_each, restarted_more}
use Rattle.sctp_tx_queue.proofs.SettledLemmas.{settled_more}
use Rattle.sctp_tx_queue.proofs.send_queue.SendQueue.restart_all.Goals as goal

pub loop-id-preserved : goal.loop-id-preserved
loop-id-preserved c = record {
  rest =
      restart_each c.args.ids.now c.loop-id.id-index (record { 0 = 0 }) c.loop-id.self c.restart_in_turn.new.self c.loop-id-test.true c.in_ok-are_settled.ensures.ok
      ∙ c.loop-id.invariant.rest;
  done = restarted_more c.args.ids.now c.loop-id.id-index (record { 0 = 0 }) c.args.self.now c.loop-id.self c.restart_in_turn.new.self c.loop-id-test.true c.loop-id.invariant.done c.in_ok-are_settled.ensures.ok;
  settled = λ h.
      let now = c.in_ok-are_settled.ensures.settled h in
      settled_more c.args.ids.now c.loop-id.id-index (record { 0 = 0 }) c.loop-id.self c.restart_in_turn.new.self c.loop-id-test.true c.in_ok-are_settled.ensures.ok now.1 (c.loop-id.invariant.settled now.0);
}

pub returns-in_err-are_settled-clause-err : goal.returns-in_err-are_settled-clause-err
returns-in_err-are_settled-clause-err c =
    let some : (count : ℕ) × (c.restart_in_turn.new.self ≡ each_restarted (take count (map (λ id. id.0) c.args.ids.now)) c.args.self.now) = (c.loop-id.id-index, c.in_err-are_settled.ensures.err ∙ c.loop-id.invariant.done) in
    search (rules, some)
