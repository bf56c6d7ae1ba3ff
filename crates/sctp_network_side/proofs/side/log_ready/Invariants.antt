use Rattle.std.proofs.Common.{◌≡◌, List, ◌++◌, length, map}
use Rattle.spec_endpoint.specs.Calls.{ready_in}
use Rattle.spec_world.specs.Observations.{Entry}
use Rattle.spec_world.specs.World.{ready_entries}
use Rattle.sctp_network_side.specs.SideView.{end_tree, entry_tree}
use Rattle.sctp_network_side.proofs.side.log_ready.Given as goal

abbrev pub invariant-loop-place : goal.invariant-loop-place
invariant-loop-place g l = record {
  end : l.place-end ≡ length (ready_in l.socket.state);
  log : map entry_tree l.log.items ++ ready_entries (end_tree l.end) l.place (ready_in l.socket.state)
      ≡ map entry_tree l.initial.log.items ++ ready_entries (end_tree l.end) l.first (ready_in l.socket.state);
  begun : (made : List Entry) × (map entry_tree l.log.items ≡ map entry_tree l.initial.log.items ++ made);
}
