use Rattle.std.proofs.Common.{◌≡◌, false, List, ◌++◌, map, drop}
use Rattle.spec_world.specs.World.{Action, Runs}
use Rattle.sctp_network_side.specs.SideView.{action_of}
use Rattle.sctp_network.specs.WorldView.{world_of}
use Rattle.sctp_network.proofs.world.World.run_each.Given as goal

abbrev pub invariant-loop-event : goal.invariant-loop-event
invariant-loop-event g l = record {
  ran : (front : List Action) × (map action_of l.events ≡ front ++ map action_of (drop l.event-index l.events))
      × Runs front (world_of g.R.Rng.stream g.C.Checksum.word_of l.initial.self) (world_of g.R.Rng.stream g.C.Checksum.word_of l.self);
  works : l.initial.self.has_failed ≡ false → l.self.has_failed ≡ false;
}
