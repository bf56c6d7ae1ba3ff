-- What one end writes is received by the other as the packet that it was.
use Rattle.std.specs.Prelude.{◌≡◌, ℕ, ◌+◌, ◌≤◌, ◌==◌, ◌||◌, not, true, List, map, length, All}
use Rattle.sctp_packet.specs.Written.{chunks_bytes}
use Rattle.sctp_packet.specs.Grammar.{carried}
use Rattle.sctp_packet.specs.Packet.{PacketTree, FitsHeader}
use Rattle.sctp_packet.specs.ReadBack.{ChunkReadsBack}
use Rattle.sctp_state.specs.Options.{Options}
use Rattle.spec_endpoint.specs.Association.{Endpoint}
use Rattle.spec_endpoint.specs.Input.{on_packet}
use Rattle.spec_endpoint.specs.Wire.{field_of}
use Rattle.spec_endpoint.specs.Receiving.{Receives}
use Rattle.proof_endpoint.specs.Mapped.{Carried, as_written}

-- Each chunk can be read back, numbers and length fit their fields, and a packet without a checksum is let through: its
-- receiver has a method other than 0 (RFC 9653 section 5.3), or looks at no checksum.
pub record IsReceivable (o : Options) (p : Carried) : Type 0 where
  pub header : FitsHeader p.header
  pub chunks : All ChunkReadsBack p.chunks
  pub short : 12 + length (chunks_bytes p.chunks) ≤ 65535
  pub sum : (o.disable_checksum_verification || (p.is_summed || not (o.zero_checksum_method == 0))) ≡ true

-- the packet, with chunks as they are carried: fields that a kind doesn't write are zero
abbrev pub as_received : (word_of : List ℕ → ℕ) → Carried → PacketTree
as_received word_of p = record { header = p.header; checksum = field_of word_of p.header p.is_summed p.chunks; chunks = map carried p.chunks }

-- such a packet may be received as itself
abbrev pub WrittenPacketsAreReceived : Type 0
WrittenPacketsAreReceived =
    (word_of : List ℕ → ℕ) (p : Carried) (s : Endpoint (List ℕ)) → IsReceivable s.endpoint_state.context.options p
    → Receives word_of (as_written word_of p) s (on_packet (as_received word_of p) s)

-- and as nothing else
abbrev pub WrittenPacketsAreOne : Type 0
WrittenPacketsAreOne =
    (word_of : List ℕ → ℕ) (p : Carried) (s t : Endpoint (List ℕ)) → IsReceivable s.endpoint_state.context.options p
    → Receives word_of (as_written word_of p) s t → t ≡ on_packet (as_received word_of p) s
