-- A packet that is being built: a header, a limit, and the bytes of the chunks that were added.
use Rattle.std.specs.Prelude.{◌≡◌, ℕ, ◌+◌, ◌-◌, ◌<◌, ◌≤◌, Bool, if◌then◌else◌, List, [], ◌∷◌, length, drop}
use Rattle.sctp_chunk.specs.Chunk.{ChunkTree}
use Rattle.sctp_chunk.specs.Written.{chunks_bytes}
use Rattle.sctp_packet.specs.Packet.{HeaderTree, unsummed_bytes, joined_bytes}

pub record BuilderTree : Type 0 where
  pub header : HeaderTree
  pub limit : ℕ
  pub writes_checksum : Bool
  pub body : List ℕ

-- the builder holds these chunks
abbrev pub Holds : BuilderTree → List ChunkTree → Type 0
Holds b chunks = b.body ≡ chunks_bytes chunks

-- how many bytes more fit
abbrev pub remaining : BuilderTree → ℕ
remaining b = b.limit - (12 + length b.body)

-- the packet so far, the checksum's field zero; no bytes where nothing was added
abbrev pub so_far : HeaderTree → List ℕ → List ℕ
so_far h [] = []
so_far h (b ∷ body) = unsummed_bytes h (b ∷ body)

-- the packet, with the word in its field where the checksum is on; no bytes where nothing was added
abbrev pub build : Bool → HeaderTree → ℕ → List ℕ → List ℕ
build summed h word [] = []
build summed h word (b ∷ body) = joined_bytes h (if summed then word else 0) (b ∷ body)

-- the bytes are none, or a packet so far with something in it, up to the limit
pub record HasPacket (h : HeaderTree) (limit : ℕ) (bytes : List ℕ) : Type 0 where
  pub more_than_header : 0 < length bytes → 12 < length bytes
  pub packet : 0 < length bytes → bytes ≡ unsummed_bytes h (drop 12 bytes)
  pub fits : 0 < length bytes → length bytes ≤ limit
