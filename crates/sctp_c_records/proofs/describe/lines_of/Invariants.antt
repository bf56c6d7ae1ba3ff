use Rattle.std.proofs.Common.{◌≡◌, ◌++◌, map, drop, string_bytes}
use Rattle.sctp_packet.specs.ChunkView.{chunk_tree}
use Rattle.sctp_c_records.specs.Describe.{chunk_lines}
use Rattle.sctp_c_records.proofs.describe.lines_of.Given as goal

abbrev pub invariant-loop-chunk : goal.invariant-loop-chunk
invariant-loop-chunk l = string_bytes l.text ++ chunk_lines (map chunk_tree (drop l.chunk-index l.chunks)) ≡ chunk_lines (map chunk_tree l.chunks)
