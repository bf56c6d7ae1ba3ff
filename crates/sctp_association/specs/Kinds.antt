-- The chunk of a fragment.
use Rattle.std.specs.Prelude.{◌==◌, ◌||◌, cond, Bool}
use Rattle.sctp_packet.specs.Chunk.{ChunkTree}
use Rattle.sctp_packet.specs.Written.{chunk_type}
use Rattle.sctp_packet.specs.Views.{viewed_data, viewed_idata}
use Rattle.sctp_chunk.specs.declared.data.DataView.{DataView}

-- whether the chunk is DATA or I-DATA
abbrev pub carries_data : ChunkTree → Bool
carries_data t = (chunk_type t == 0) || (chunk_type t == 64)

-- the chunk that carries the fragment
abbrev pub carrying : (is_interleaved : Bool) → DataView → ChunkTree
carrying is_interleaved v = cond is_interleaved (viewed_idata v) (viewed_data v)
