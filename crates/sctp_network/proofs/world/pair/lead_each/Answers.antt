use Rattle.std.proofs.Common.{map, drop, ◌+◌}
use Rattle.std.proofs.lemmas.Result.{err_from_is_err_and}
use Rattle.sctp_network_side.specs.SideView.{action_of}
use Rattle.proof_world.proofs.PairLemmas.{both_on, both_ran_out}
use Rattle.sctp_network.proofs.ReachableLemmas.{next_event}
use Rattle.sctp_network.proofs.world.pair.lead_each.Goals as goal

pub loop-event-preserved : goal.loop-event-preserved
loop-event-preserved g c =
    let i = c.loop-event.event-index in
    let events = c.args.events.now in
    record {
      ran = both_on _ (map action_of (drop i events)) (map action_of (drop (i + 1) events)) _ _ _ _ _ _ _ c.loop-event.invariant.ran
          (next_event events i c.event-item.result c.loop-event-test.true c.event-item.is) c.in_ok-step_both.ensures.first c.in_ok-step_both.ensures.second;
      first = c.in_ok-step_both.ensures.works.0;
      second = c.in_ok-step_both.ensures.works.1;
    }

pub returns-in_err-step_both-clause-ran_out : goal.returns-in_err-step_both-clause-ran_out
returns-in_err-step_both-clause-ran_out g c =
    let p = err_from_is_err_and c.from_residual.result c.from_residual.ensures.1 in
    let i = c.loop-event.event-index in
    let events = c.args.events.now in
    rw (p.1, p.2)
    (λ is. both_ran_out _ (map action_of (drop i events)) (map action_of (drop (i + 1) events)) _ _ _ _ _ _ _ _ _ c.loop-event.invariant.ran
    (next_event events i c.event-item.result c.loop-event-test.true c.event-item.is) (c.in_err-step_both.ensures.ran_out is))
