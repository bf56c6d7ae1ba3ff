-- The first bytes of an unknown chunk.
use Rattle.std.proofs.Common.{◌≡◌, ℕ, ◌/◌, ◌%◌, List, refl, arith}
use Rattle.sctp_packet.specs.Chunk.{unknown_chunk}
use Rattle.sctp_packet.specs.Written.{chunk_value}

pub value_is : (typ flags : ℕ) (value : List ℕ) → chunk_value (unknown_chunk typ flags value) ≡ value
unfolding chunk_value
value_is typ flags value = refl

pub high : (n : ℕ) → n % 65536 / 256 % 256 ≡ n / 256 % 256
high n = omega arith

pub low : (n : ℕ) → n % 65536 % 256 ≡ n % 256
low n = omega arith
