use Rattle.std.proofs.Common.{◌≡◌, List, ◌++◌, length, map}
use Rattle.spec_world.specs.Observations.{Entry}
use Rattle.spec_world.specs.World.{given_up_entries}
use Rattle.sctp_network_side.specs.SideView.{end_tree, entry_tree, without_records}
use Rattle.sctp_network_side.proofs.side.take_given_up.Given as goal

abbrev pub invariant-loop-given_up : goal.invariant-loop-given_up
invariant-loop-given_up g l = record {
  socket : without_records l.socket ≡ without_records l.initial.socket;
  log : map entry_tree l.log.items ++ given_up_entries (end_tree l.end) l.socket.context.emitted.given_up
      ≡ map entry_tree l.initial.log.items ++ given_up_entries (end_tree l.end) l.initial.socket.context.emitted.given_up;
  begun : (made : List Entry) × (map entry_tree l.log.items ≡ map entry_tree l.initial.log.items ++ made);
}

abbrev pub decreases-loop-given_up : goal.decreases-loop-given_up
decreases-loop-given_up g l = length l.socket.context.emitted.given_up
