-- Faults of chunks as faults of packets, and the numbers of the latter.
use Rattle.std.specs.Prelude.{◌≡◌, ℕ}
use Rattle.sctp_wire.specs.declared.error.ChunkParseError.{ChunkParseError}
use Rattle.sctp_wire.specs.declared.error.ChunkParseError.TheVariants as faults
use Rattle.sctp_packet.specs.declared.packet.PacketParseError.{PacketParseError}
use Rattle.sctp_packet.specs.declared.packet.PacketParseError.TheVariants.{TooShort, TooLong, InvalidChecksum, Chunk, Memory}

-- want of memory stays want of memory
abbrev pub IsPacketFault : ChunkParseError → PacketParseError → Type 0
IsPacketFault faults.Memory e = e ≡ Memory
IsPacketFault fault e = e ≡ Chunk fault

abbrev pub fault_number : PacketParseError → ℕ
fault_number TooShort = 1
fault_number TooLong = 2
fault_number InvalidChecksum = 3
fault_number (Chunk fault) = 4
fault_number Memory = 5
