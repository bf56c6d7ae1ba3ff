-- Packets that were written are read back, and so received.
use Rattle.std.proofs.Common.{◌≡◌, ℕ, ◌+◌, ◌%◌, ◌^◌, ◌<◌, ◌==◌, ◌&&◌, ◌||◌, not, Bool, true, false, List, length, take, drop, map, refl, ap, ◌∙◌, arith}
use Rattle.std.specs.Prelude.{All}
use Rattle.std.proofs.lemmas.Bool.{eq-eqb}
use Rattle.std.proofs.Math.Bool.{or-true}
use Rattle.sctp_wire.specs.Checksum.{accepts, with_zero_field}
use Rattle.sctp_wire.specs.Field.{be16, be32}
use Rattle.sctp_packet.specs.Chunk.{ChunkTree}
use Rattle.sctp_packet.specs.Written.{chunks_bytes}
use Rattle.sctp_packet.specs.Grammar.{carried}
use Rattle.sctp_packet.specs.Packet.{HeaderTree, PacketTree, FitsHeader, IsPacket, Accepts, lets_through, header_bytes, unsummed_bytes, packet_bytes}
use Rattle.sctp_packet.specs.ReadBack.{ChunkReadsBack}
use Rattle.sctp_packet.proofs.ReadBackLemmas.{chunks_tile}
use Rattle.sctp_packet.proofs.PacketLemmas.{length_joined}
use Rattle.sctp_packet.proofs.LawLemmas.{one_packet_lem, never_both_lem}
use Rattle.sctp_state.specs.Options.{Options}
use Rattle.spec_endpoint.specs.Input.{on_packet}
use Rattle.spec_endpoint.specs.Wire.{word_in, field_of, word_at}
use Rattle.spec_endpoint.specs.Receiving.{policy_of, read, not_read}
use Rattle.proof_endpoint.specs.Mapped.{Carried, as_written}
use Rattle.proof_endpoint.specs.ReceivedBack.{IsReceivable, as_received, WrittenPacketsAreReceived, WrittenPacketsAreOne}

-- ---- the checksum

summed : (h : HeaderTree) (word : ℕ) (cs : List ChunkTree) → with_zero_field (take 8 (packet_bytes h word cs)) (drop 12 (packet_bytes h word cs)) ≡ unsummed_bytes h (chunks_bytes cs)
unfolding packet_bytes unsummed_bytes header_bytes be16 be32
summed h word cs = refl

let_through : (disabled is_summed : Bool) (method word field : ℕ) → (is_summed ≡ true → field ≡ word) → (is_summed ≡ false → field ≡ 0)
    → (disabled || (is_summed || not (method == 0))) ≡ true → accepts disabled method word field ≡ true
let_through true is_summed method word field with_sum without h = refl
let_through false true method word field with_sum without h =
    ap (λ (n : ℕ). (n == word) || ((n == 0) && not (method == 0))) (with_sum refl) ∙ ap (λ (b : Bool). b || ((word == 0) && not (method == 0))) (eq-eqb word word refl)
let_through false false method word field with_sum without h =
    ap (λ (n : ℕ). (n == word) || ((n == 0) && not (method == 0))) (without refl) ∙ ap (λ (b : Bool). (0 == word) || b) h ∙ or-true (0 == word)

pub small_word : (n : ℕ) → n % 2 ^ 32 < 2 ^ 32
small_word n = omega arith

module _ (word_of : List ℕ → ℕ) (header : HeaderTree) (chunks : List ChunkTree) where
  field_small : (is_summed : Bool) → field_of word_of header is_summed chunks < 2 ^ 32
  field_small true = small_word _
  field_small false = omega arith

  field_summed : (is_summed : Bool) → is_summed ≡ true → field_of word_of header is_summed chunks ≡ word_in word_of header chunks
  field_summed true e = refl
  field_summed false e = cc

  field_zero : (is_summed : Bool) → is_summed ≡ false → field_of word_of header is_summed chunks ≡ 0
  field_zero true e = cc
  field_zero false e = refl

  word_of_written : (field : ℕ) → word_at word_of (packet_bytes header field chunks) ≡ word_in word_of header chunks
  word_of_written field = ap (λ (bytes : List ℕ). word_of bytes % 2 ^ 32) (summed header field chunks)

-- ---- the packet

is_packet : (h : HeaderTree) (field : ℕ) (cs : List ChunkTree) → FitsHeader h → field < 2 ^ 32 → All ChunkReadsBack cs
    → IsPacket (packet_bytes h field cs) (record { header = h; checksum = field; chunks = map carried cs })
unfolding packet_bytes
is_packet h field cs fits small reads = record { body = chunks_bytes cs; joined = refl; header_fits = fits; checksum_fits = small; chunks = chunks_tile cs reads }

pub length_written : (h : HeaderTree) (field : ℕ) (cs : List ChunkTree) → length (packet_bytes h field cs) ≡ 12 + length (chunks_bytes cs)
unfolding packet_bytes
length_written h field cs = length_joined h field (chunks_bytes cs)

pub is_accepted : (word_of : List ℕ → ℕ) (p : Carried) (o : Options) → IsReceivable o p
    → Accepts (policy_of o) (word_at word_of (as_written word_of p)) (as_written word_of p) (as_received word_of p)
is_accepted word_of p o h =
    let field : ℕ = field_of word_of p.header p.is_summed p.chunks in
    record {
      packet = is_packet p.header field p.chunks h.header (field_small word_of p.header p.chunks p.is_summed) h.chunks;
      short_enough = omega (arith, length_written p.header field p.chunks, h.short);
      sum = ap (λ (n : ℕ). lets_through (policy_of o) n field) (word_of_written word_of p.header p.chunks field)
          ∙ let_through o.disable_checksum_verification p.is_summed o.zero_checksum_method (word_in word_of p.header p.chunks) field
          (field_summed word_of p.header p.chunks p.is_summed) (field_zero word_of p.header p.chunks p.is_summed) h.sum;
    }

pub written_received : WrittenPacketsAreReceived
written_received word_of p s h = read (as_received word_of p) (is_accepted word_of p s.endpoint_state.context.options h) refl

pub written_alone : WrittenPacketsAreOne
written_alone word_of p s t h (read q accepts e) =
    e ∙ ap (λ (x : PacketTree). on_packet x s)
    (one_packet_lem (as_written word_of p) q (as_received word_of p) accepts.packet (is_accepted word_of p s.endpoint_state.context.options h).packet)
written_alone word_of p s t h (not_read fault is refuses e) =
    absurd (never_both_lem (policy_of s.endpoint_state.context.options) (word_at word_of (as_written word_of p)) (as_written word_of p) fault (as_received word_of p)
    is refuses (is_accepted word_of p s.endpoint_state.context.options h))
