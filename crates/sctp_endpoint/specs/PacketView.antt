-- What the fields of a packet that is put together mean.
use Rattle.std.specs.Prelude.{◌+◌, ◌≤◌, ◌<◌, ◌^◌, max, length}
use Rattle.sctp_packet.specs.Written.{chunks_bytes}
use Rattle.sctp_endpoint.specs.declared.outgoing_packet.OutgoingPacket.TheInside.{Inside}
use Rattle.spec_endpoint.specs.Packets.{PacketDraft}

abbrev pub packet_of : Inside → PacketDraft
packet_of p = record { tag = p.verification_tag; is_summed = p.write_checksum; limit = p.limit; chunks = p.chunks }

-- all chunks are within the limit
pub record IsPacket (p : Inside) : Type 0 where
  pub small : p.limit < 2 ^ 32
  pub short : 12 + length (chunks_bytes p.chunks) ≤ max 12 p.limit
