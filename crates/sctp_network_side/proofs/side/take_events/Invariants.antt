use Rattle.std.proofs.Common.{◌≡◌, List, ◌++◌, length, map}
use Rattle.spec_world.specs.Observations.{Entry}
use Rattle.spec_world.specs.World.{emitted_entries}
use Rattle.spec_endpoint.specs.Packets.{packets_in}
use Rattle.sctp_network_side.specs.SideView.{end_tree, entry_tree, without_events}
use Rattle.sctp_network_side.proofs.side.take_events.Given as goal

abbrev pub invariant-loop-event : goal.invariant-loop-event
invariant-loop-event g l = record {
  socket : without_events l.socket ≡ without_events l.initial.socket;
  packets : map (λ bytes. bytes.items) l.packets.items ++ packets_in l.socket.context.emitted.events
      ≡ map (λ bytes. bytes.items) l.initial.packets.items ++ packets_in l.initial.socket.context.emitted.events;
  log : map entry_tree l.log.items ++ emitted_entries (end_tree l.end) (length l.packets.items) l.socket.context.emitted.events
      ≡ map entry_tree l.initial.log.items ++ emitted_entries (end_tree l.end) (length l.initial.packets.items) l.initial.socket.context.emitted.events;
  begun : (made : List Entry) × (map entry_tree l.log.items ≡ map entry_tree l.initial.log.items ++ made);
}

abbrev pub decreases-loop-event : goal.decreases-loop-event
decreases-loop-event g l = length l.socket.context.emitted.events
