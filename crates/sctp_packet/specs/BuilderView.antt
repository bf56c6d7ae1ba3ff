-- What a builder's fields mean.
use Rattle.std.specs.Prelude.{◌<◌, ◌≤◌, length, drop, vec_capacity}
use Rattle.sctp_packet.specs.declared.builder.SctpPacketBuilder.TheInside.{Inside}
use Rattle.sctp_packet.specs.PacketView.{header_tree}
use Rattle.sctp_packet.specs.Builder.{BuilderTree, HasPacket}

abbrev pub builder_tree : Inside → BuilderTree
builder_tree b = record { header = header_tree b.header; limit = b.limit; writes_checksum = b.write_checksum; body = drop 12 b.bytes.items }

-- a packet so far, and room for all that may follow
pub record IsBuilder (b : Inside) : Type 0 where
  pub packet : HasPacket (header_tree b.header) b.limit b.bytes.items
  pub reserved : 0 < length b.bytes.items → b.limit ≤ vec_capacity b.bytes
