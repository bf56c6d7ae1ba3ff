-- What the fields of chunks that were written mean.
use Rattle.std.specs.Prelude.{◌≡◌, List, map, drop}
use Rattle.sctp_packet.specs.Chunk.{ChunkTree}
use Rattle.sctp_packet.specs.Written.{chunks_bytes}
use Rattle.sctp_endpoint.specs.declared.written_chunks.WrittenChunks.TheInside.{Inside}
use Rattle.sctp_endpoint.specs.WrittenChunks.{written_tree}

abbrev pub trees_of : Inside → List ChunkTree
trees_of w = map written_tree w.chunks.items

-- behind room for a header the bytes are theirs
pub record IsWritten (w : Inside) : Type 0 where
  pub bytes : drop 12 w.bytes.items ≡ chunks_bytes (trees_of w)
