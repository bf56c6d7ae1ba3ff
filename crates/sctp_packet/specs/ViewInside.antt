-- What a view's fields mean.
use Rattle.std.specs.Prelude.{List, []}
use Rattle.sctp_wire.specs.Item.{ParsesAll}
use Rattle.sctp_chunk.specs.Chunk.{ChunkTree}
use Rattle.sctp_chunk.specs.Grammar.{IsChunk}
use Rattle.sctp_packet.specs.declared.view.PacketView.TheInside.{Inside}
use Rattle.sctp_packet.specs.PacketView.{header_tree}
use Rattle.sctp_packet.specs.View.{ViewTree}

abbrev pub view_tree : Inside → ViewTree
view_tree v = record { header = header_tree v.common_header; checksum = v.common_header.checksum; rest = v.rest.now }

-- the bytes that are left are chunks
abbrev pub IsView : Inside → Type 0
IsView v = (chunks : List ChunkTree) × ParsesAll IsChunk v.rest.now chunks []
