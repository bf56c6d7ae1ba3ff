use Rattle.std.proofs.Common.{length, map}
use Rattle.sctp_wire.specs.Item.{ParsesAll}
use Rattle.sctp_chunk.specs.Grammar.{IsChunk}
use Rattle.sctp_control_chunk.specs.ChunkView.{chunk_tree}
use Rattle.sctp_packet.proofs.view.build_chunks.Given as goal

abbrev pub invariant-loop-raw : goal.invariant-loop-raw
invariant-loop-raw l = ParsesAll IsChunk l.fn.view.rest (map chunk_tree l.chunks.items) l.view.rest

abbrev pub decreases-loop-raw : goal.decreases-loop-raw
decreases-loop-raw l = length l.view.rest
