use Rattle.std.proofs.Common.{map, take}
use Rattle.sctp_packet.specs.Grammar.{Each}
use Rattle.sctp_network_side.specs.SideView.{action_of}
use Rattle.sctp_network.specs.WorldView.{world_of}
use Rattle.proof_world.specs.Readable.{GivesBytes}
use Rattle.sctp_network.proofs.arguments.events_give_bytes.Given as goal

abbrev pub invariant-loop-event : goal.invariant-loop-event
invariant-loop-event g l = Each (GivesBytes (world_of g.R.Rng.stream g.C.Checksum.word_of l.fn.world)) (map action_of (take l.event-index l.events))
