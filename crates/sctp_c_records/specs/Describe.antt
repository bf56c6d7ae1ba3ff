-- A packet as people read it.
use Rattle.std.specs.Prelude.{◌≡◌, ◌<◌, ◌++◌, ℕ, true, List, [], ◌∷◌, length, take}
use Rattle.sctp_chunk.specs.ChunkText.{chunk_text}
use Rattle.sctp_packet.specs.Chunk.{ChunkTree}
use Rattle.sctp_packet.specs.Packet.{PacketTree, Accepts, Refuses}
use Rattle.sctp_packet.specs.declared.packet.PacketParseError.{PacketParseError}
use Rattle.sctp_packet.specs.declared.packet.PacketParseError.TheVariants as faults
use Rattle.sctp_wire.specs.declared.checksum.Policy.{Policy}

abbrev pub any_checksum : Policy
any_checksum = record { disable_checksum_verification = true; zero_checksum_alternate_error_detection_method = record { 0 = 0 } }

-- a line a chunk
abbrev pub chunk_lines : List ChunkTree → List ℕ
chunk_lines [] = []
chunk_lines (c ∷ cs) = (chunk_text c ++ 10 ∷ []) ++ chunk_lines cs

-- the lines of the packet that the bytes are, and a zero byte
pub record IsDescribed (bytes text : List ℕ) : Type 0 where
  pub packet : PacketTree
  pub accepted : Accepts any_checksum 0 bytes packet
  pub lines : text ≡ chunk_lines packet.chunks ++ 0 ∷ []

abbrev pub refusal_answer : PacketParseError → ℕ
refusal_answer faults.Memory = 17
refusal_answer fault = 22

-- the text stands in the buffer, or is too long for it; or the bytes are refused
pub data Shows (bytes old new : List ℕ) (needed answer : ℕ) : Type 0 where
  written : (text : List ℕ) → IsDescribed bytes text → take (length text) new ≡ text → needed ≡ length text → answer ≡ 0 → Shows bytes old new needed answer
  short : (text : List ℕ) → IsDescribed bytes text → length old < length text → needed ≡ length text → answer ≡ 9 → Shows bytes old new needed answer
  refused : (fault : PacketParseError) → Refuses any_checksum 0 bytes fault → answer ≡ refusal_answer fault → Shows bytes old new needed answer
