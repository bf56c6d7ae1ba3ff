use Rattle.std.proofs.Common.{◌≡◌, ◌++◌, map, take, drop}
use Rattle.sctp_network_side.specs.SideView.{entry_tree}
use Rattle.run_world.specs.Log.{row_shows, row_time, entry_shows, times_from, times_of}
use Rattle.run_world.proofs.log.rows_of.Given as goal

abbrev pub invariant-loop-entry : goal.invariant-loop-entry
invariant-loop-entry g l = record {
  shown : map row_shows l.rows.items ≡ map (entry_shows (g.W.Watched.packets_of l.world)) (map entry_tree (take l.entry-index l.entries));
  times : map row_time l.rows.items ++ times_from l.clocks (map entry_tree (drop l.entry-index l.entries))
      ≡ times_of (map entry_tree l.entries);
}
