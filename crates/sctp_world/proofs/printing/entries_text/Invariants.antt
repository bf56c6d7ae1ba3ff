use Rattle.std.proofs.Common.{◌≡◌, take, map, string_bytes}
use Rattle.std.specs.List.{flat_map}
use Rattle.sctp_world.specs.Printing.{entry_text}
use Rattle.sctp_network_side.specs.SideView.{entry_tree}
use Rattle.sctp_network.specs.WorldView.{world_of}
use Rattle.sctp_world.proofs.printing.entries_text.Given as goal

abbrev pub invariant-loop-entry : goal.invariant-loop-entry
invariant-loop-entry g l = string_bytes l.text ≡ flat_map (entry_text (world_of g.R.Rng.stream g.C.Checksum.word_of l.world)) (map entry_tree (take l.entry-index l.entries))
