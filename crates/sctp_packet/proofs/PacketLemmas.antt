-- The parts of a packet, and faults of chunks as faults of packets.
use Rattle.std.proofs.Common.{◌≡◌, ℕ, ◌+◌, ◌^◌, ◌<◌, List, length, drop, refl, arith}
use Rattle.std.proofs.lemmas.Nat.{from_be_bytes-to_be_bytes_4}
use Rattle.sctp_wire.specs.Field.{be16, be32}
use Rattle.sctp_packet.specs.Packet.{HeaderTree, header_bytes, joined_bytes, checksum_field}

pub body_at : (h : HeaderTree) (word : ℕ) (body : List ℕ) → drop 12 (joined_bytes h word body) ≡ body
unfolding header_bytes be16 be32
body_at h word body = refl

pub field_at : (h : HeaderTree) (word : ℕ) (body : List ℕ) → word < 2 ^ 32 → checksum_field (joined_bytes h word body) ≡ word
unfolding header_bytes be16 be32
field_at h word body fits = from_be_bytes-to_be_bytes_4 word fits

pub length_joined : (h : HeaderTree) (word : ℕ) (body : List ℕ) → length (joined_bytes h word body) ≡ 12 + length body
unfolding header_bytes be16 be32
length_joined h word body = omega arith
