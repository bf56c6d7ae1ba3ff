-- A packet that is read in place: its header, and the bytes of the chunks that are still to be looked at.
use Rattle.std.specs.Prelude.{ℕ, List, []}
use Rattle.sctp_wire.specs.Item.{ParsesAll}
use Rattle.sctp_wire.specs.declared.checksum.Policy.{Policy}
use Rattle.sctp_chunk.specs.Chunk.{ChunkTree}
use Rattle.sctp_chunk.specs.Grammar.{IsChunk}
use Rattle.sctp_packet.specs.Packet.{HeaderTree, PacketTree, Accepts}

pub record ViewTree : Type 0 where
  pub header : HeaderTree
  pub checksum : ℕ
  pub rest : List ℕ

-- the chunks that are still to be looked at
abbrev pub AreLeft : ViewTree → List ChunkTree → Type 0
AreLeft v chunks = ParsesAll IsChunk v.rest chunks []

-- the packet of the view's header and these chunks
abbrev pub viewed_packet : ViewTree → List ChunkTree → PacketTree
viewed_packet v chunks = record { header = v.header; checksum = v.checksum; chunks = chunks }

-- the reader accepts the bytes, and all chunks of their packet are left
abbrev pub Views : Policy → ℕ → List ℕ → ViewTree → Type 0
Views policy word bytes v = (chunks : List ChunkTree) × Accepts policy word bytes (viewed_packet v chunks) × AreLeft v chunks
