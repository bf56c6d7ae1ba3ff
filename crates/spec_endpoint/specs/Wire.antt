-- Packets as bytes.
use Rattle.std.specs.Prelude.{ℕ, ◌<◌, ◌%◌, ◌^◌, Bool, true, false, List, take, drop, All}
use Rattle.sctp_wire.specs.Checksum.{with_zero_field}
use Rattle.sctp_packet.specs.Chunk.{ChunkTree}
use Rattle.sctp_packet.specs.Written.{chunks_bytes}
use Rattle.sctp_packet.specs.Packet.{HeaderTree, unsummed_bytes, packet_bytes}
use Rattle.spec_endpoint.specs.Association.{Packing}

abbrev pub AreBytes : List ℕ → Type 0
AreBytes bytes = All (λ (b : ℕ). b < 2 ^ 8) bytes

-- the 32 bits of a packet's word
abbrev pub word_in : (word_of : List ℕ → ℕ) → HeaderTree → List ChunkTree → ℕ
word_in word_of header chunks = word_of (unsummed_bytes header (chunks_bytes chunks)) % 2 ^ 32

-- what its checksum field holds
abbrev pub field_of : (word_of : List ℕ → ℕ) → HeaderTree → (is_summed : Bool) → List ChunkTree → ℕ
field_of word_of header true chunks = word_in word_of header chunks
field_of word_of header false chunks = 0

abbrev pub written_bytes : (word_of : List ℕ → ℕ) → HeaderTree → (is_summed : Bool) → List ChunkTree → List ℕ
written_bytes word_of header is_summed chunks = packet_bytes header (field_of word_of header is_summed chunks) chunks

-- how an end with this checksum's word of bytes writes
abbrev pub writing : (word_of : List ℕ → ℕ) → Packing (List ℕ)
writing word_of = record { write = written_bytes word_of; word_of = word_of }

-- the 32 bits of the word of these bytes, with the checksum's field as zeros
abbrev pub word_at : (word_of : List ℕ → ℕ) → List ℕ → ℕ
word_at word_of bytes = word_of (with_zero_field (take 8 bytes) (drop 12 bytes)) % 2 ^ 32
