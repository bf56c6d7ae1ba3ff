-- What was written of a chunk.
use Rattle.sctp_chunk.specs.Views.{fragment_tree, sack_chunk_tree}
use Rattle.sctp_packet.specs.Chunk.{ChunkTree, fragment_chunk}
use Rattle.sctp_packet.specs.ChunkView.{chunk_tree}
use Rattle.sctp_endpoint.specs.declared.written_chunks.WrittenChunk.{WrittenChunk}
use Rattle.sctp_endpoint.specs.declared.written_chunks.WrittenChunk.TheVariants.{Whole, Sack, Fragment}

abbrev pub written_tree : WrittenChunk → ChunkTree
written_tree (Whole chunk) = chunk_tree chunk.value
written_tree (Sack sack) = sack_chunk_tree sack.value
written_tree (Fragment tsn fragment form) = fragment_chunk form.value.is_interleaved form.value.is_immediate (tsn.value.0, fragment_tree fragment.value)
