-- What the program's packets say, without where they lie in memory.
use Rattle.std.specs.Prelude.{map}
use Rattle.sctp_packet.specs.declared.packet.CommonHeader.{CommonHeader}
use Rattle.sctp_packet.specs.declared.packet.SctpPacket.{SctpPacket}
use Rattle.sctp_control_chunk.specs.ChunkView.{chunk_tree}
use Rattle.sctp_packet.specs.Packet.{HeaderTree, PacketTree}

abbrev pub header_tree : CommonHeader → HeaderTree
header_tree h = record { source_port = h.source_port; destination_port = h.destination_port; verification_tag = h.verification_tag }

abbrev pub packet_tree : SctpPacket → PacketTree
packet_tree p = record { header = header_tree p.common_header; checksum = p.common_header.checksum; chunks = map chunk_tree p.chunks.items }
