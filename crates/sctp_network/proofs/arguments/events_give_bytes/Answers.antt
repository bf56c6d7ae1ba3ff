use Rattle.spec_endpoint.proofs.ArgumentLemmas.{seen_more, seen_all}
use Rattle.sctp_network_side.specs.SideView.{action_of}
use Rattle.sctp_network.specs.WorldView.{world_of}
use Rattle.proof_world.specs.Readable.{GivesBytes}
use Rattle.sctp_network.proofs.arguments.events_give_bytes.Goals as goal

pub loop-event-init : goal.loop-event-init
loop-event-init g c = tt

pub loop-event-preserved : goal.loop-event-preserved
loop-event-preserved g c =
    seen_more (GivesBytes (world_of g.R.Rng.stream g.C.Checksum.word_of c.args.world.now)) action_of c.args.events.now c.loop-event.event-index c.event-item.result c.loop-event-test.true c.event-item.is
    c.loop-event.invariant c.an_event_gives_bytes.ensures.bytes

pub returns : goal.returns
returns g c = record {
  bytes = seen_all (GivesBytes (world_of g.R.Rng.stream g.C.Checksum.word_of c.args.world.now)) action_of c.args.events.now c.loop-event.event-index c.loop-event-test.false c.loop-event.invariant;
}
