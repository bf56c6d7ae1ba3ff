-- Packets (RFC 9260 section 3): a common header and chunks. A relation between bytes and a tree of what they say.
use Rattle.std.specs.Prelude.{◌≡◌, ◌≢◌, ℕ, ◌<◌, ◌≤◌, ◌^◌, Bool, true, false, List, [], ◌++◌, length, take, drop}
use Rattle.std.specs.Int.{w32, from_be_bytes}
use Rattle.sctp_wire.specs.Field.{be16, be32}
use Rattle.sctp_wire.specs.Item.{ParsesAll}
use Rattle.sctp_wire.specs.Refusal.{FailsToParseAs}
use Rattle.sctp_wire.specs.Checksum.{accepts, with_zero_field}
use Rattle.sctp_wire.specs.declared.checksum.Policy.{Policy}
use Rattle.sctp_wire.specs.declared.error.ChunkParseError.TheVariants as chunk_faults
use Rattle.sctp_packet.specs.declared.packet.PacketParseError.{PacketParseError}
use Rattle.sctp_packet.specs.declared.packet.PacketParseError.TheVariants.{TooShort, TooLong, InvalidChecksum, Chunk, Memory}
use Rattle.sctp_chunk.specs.Chunk.{ChunkTree}
use Rattle.sctp_chunk.specs.Written.{chunks_bytes}
use Rattle.sctp_chunk.specs.Grammar.{IsChunk, RefusesChunk}

-- the common header without its checksum (RFC 9260 section 3.1)
pub record HeaderTree : Type 0 where
  pub source_port : ℕ
  pub destination_port : ℕ
  pub verification_tag : ℕ

unfoldable pub header_bytes : HeaderTree → List ℕ
header_bytes h = be16 h.source_port ++ (be16 h.destination_port ++ be32 h.verification_tag)

pub record FitsHeader (h : HeaderTree) : Type 0 where
  pub source_port : h.source_port < 2 ^ 16
  pub destination_port : h.destination_port < 2 ^ 16
  pub verification_tag : h.verification_tag < 2 ^ 32

pub record PacketTree : Type 0 where
  pub header : HeaderTree
  pub checksum : ℕ
  pub chunks : List ChunkTree

-- the header with a word in the checksum's field, and bytes behind it
abbrev pub joined_bytes : HeaderTree → ℕ → List ℕ → List ℕ
joined_bytes h word body = header_bytes h ++ (be32 word ++ body)

-- The bytes are this packet: a common header, and chunks up to the end.
pub record IsPacket (bytes : List ℕ) (p : PacketTree) : Type 0 where
  pub body : List ℕ
  pub joined : bytes ≡ joined_bytes p.header p.checksum body
  pub header_fits : FitsHeader p.header
  pub checksum_fits : p.checksum < 2 ^ 32
  pub chunks : ParsesAll IsChunk body p.chunks []

-- ---- what a reader answers

-- whether the policy lets a packet through whose checksum's field holds this number, where the packet's word is `word`
abbrev pub lets_through : Policy → ℕ → ℕ → Bool
lets_through policy word field = accepts policy.disable_checksum_verification policy.zero_checksum_alternate_error_detection_method.0 word field

-- the number in bytes 8 to 11
abbrev pub checksum_field : List ℕ → ℕ
checksum_field bytes = from_be_bytes w32 (take 4 (drop 8 bytes))

-- the reader accepts the bytes, and they are this packet
pub record Accepts (policy : Policy) (word : ℕ) (bytes : List ℕ) (p : PacketTree) : Type 0 where
  pub packet : IsPacket bytes p
  pub short_enough : length bytes ≤ 65535
  pub sum : lets_through policy word p.checksum ≡ true

pub record IsSized (bytes : List ℕ) : Type 0 where
  pub low : 12 ≤ length bytes
  pub high : length bytes ≤ 65535

-- The fault for which the reader refuses the bytes: their size, their checksum, and then the first chunk at fault.
abbrev pub Refuses : Policy → ℕ → List ℕ → PacketParseError → Type 0
Refuses policy word bytes TooShort = length bytes < 12
Refuses policy word bytes TooLong = 65535 < length bytes
Refuses policy word bytes InvalidChecksum = IsSized bytes × (lets_through policy word (checksum_field bytes) ≡ false)
Refuses policy word bytes (Chunk fault) =
    IsSized bytes × (lets_through policy word (checksum_field bytes) ≡ true) × FailsToParseAs IsChunk RefusesChunk (drop 12 bytes) fault × (fault ≢ chunk_faults.Memory)
Refuses policy word bytes Memory = Unit {0}

-- the fault is no want of memory
abbrev pub IsFault : PacketParseError → Type 0
IsFault e = e ≢ Memory

-- ---- packets written

-- the bytes of a packet without its checksum: zeros in its place
unfoldable pub unsummed_bytes : HeaderTree → List ℕ → List ℕ
unsummed_bytes h body = with_zero_field (header_bytes h) body

-- the bytes of the packet of these chunks, with the word in the checksum's field
unfoldable pub packet_bytes : HeaderTree → ℕ → List ChunkTree → List ℕ
packet_bytes h word chunks = joined_bytes h word (chunks_bytes chunks)

-- the bytes that are written for a packet, the checksum's field zero
abbrev pub canonical : PacketTree → List ℕ
canonical p = packet_bytes p.header 0 p.chunks
