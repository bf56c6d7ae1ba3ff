use Rattle.std.proofs.Common.{◌≡◌, false, map, drop}
use Rattle.sctp_network_side.specs.SideView.{action_of}
use Rattle.sctp_network.specs.WorldView.{world_of}
use Rattle.proof_world.proofs.PairLemmas.{SoFar}
use Rattle.sctp_network.proofs.world.pair.lead_each.Given as goal

abbrev pub invariant-loop-event : goal.invariant-loop-event
invariant-loop-event g l = record {
  ran : SoFar (map action_of l.events) (map action_of (drop l.event-index l.events)) (world_of g.R.Rng.stream g.C.Checksum.word_of l.initial.first)
      (world_of g.S.Rng.stream g.C.Checksum.word_of l.initial.second) (world_of g.R.Rng.stream g.C.Checksum.word_of l.first) (world_of g.S.Rng.stream g.C.Checksum.word_of l.second);
  first : l.first.has_failed ≡ false;
  second : l.second.has_failed ≡ false;
}
