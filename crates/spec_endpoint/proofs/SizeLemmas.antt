-- The size of a chunk.
use Rattle.std.proofs.Common.{◌≡◌, length, refl}
use Rattle.sctp_wire.specs.Serialize.{padded_item}
use Rattle.sctp_packet.specs.Chunk.{ChunkTree}
use Rattle.sctp_packet.specs.Written.{chunk_item, chunk_bytes}

pub size_of_chunk : (c : ChunkTree) → length (padded_item (chunk_item c)) ≡ length (chunk_bytes c)
unfolding chunk_bytes
size_of_chunk c = refl
