use Rattle.std.proofs.Common.{map, take}
use Rattle.sctp_packet.specs.Grammar.{Each}
use Rattle.sctp_network_side.specs.SideView.{action_of}
use Rattle.proof_world.specs.Reachable.{ActionFits}
use Rattle.sctp_network.proofs.arguments.events_fit.Given as goal

abbrev pub invariant-loop-event : goal.invariant-loop-event
invariant-loop-event l = Each ActionFits (map action_of (take l.event-index l.events))
