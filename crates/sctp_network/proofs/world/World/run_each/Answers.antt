use Rattle.std.proofs.Common.{map, drop, ◌+◌}
use Rattle.std.proofs.lemmas.Result.{err_from_is_err_and}
use Rattle.sctp_network_side.specs.SideView.{action_of}
use Rattle.spec_world.proofs.RunLemmas.{stepped}
use Rattle.sctp_network.proofs.InterruptedLemmas.{failing}
use Rattle.sctp_network.proofs.ReachableLemmas.{next_event, there_then}
use Rattle.sctp_network.proofs.world.World.run_each.Goals as goal

pub loop-event-preserved : goal.loop-event-preserved
loop-event-preserved g c =
    let i = c.loop-event.event-index in
    let events = c.args.events.now in
    record {
      ran = stepped _ (map action_of (drop i events)) (map action_of (drop (i + 1) events)) _ _ _ _ c.loop-event.invariant.ran
          (next_event events i c.event-item.result c.loop-event-test.true c.event-item.is) c.in_ok-happen.ensures.ok;
      works = λ was. c.in_ok-happen.ensures.works.1;
    }

pub returns-in_err-happen-clause-interrupted : goal.returns-in_err-happen-clause-interrupted
returns-in_err-happen-clause-interrupted g c =
    let p = err_from_is_err_and c.from_residual.result c.from_residual.ensures.1 in
    let i = c.loop-event.event-index in
    let events = c.args.events.now in
    rw (p.1, p.2)
    (λ is works. failing _ (map action_of (drop i events)) (map action_of (drop (i + 1) events)) _ _ _ _ c.loop-event.invariant.ran
    (next_event events i c.event-item.result c.loop-event-test.true c.event-item.is)
    (λ disabled. there_then _ is (c.in_err-happen.ensures.no_such_packet (c.loop-event.invariant.works works) disabled))
    c.in_err-happen.ensures.cut)
