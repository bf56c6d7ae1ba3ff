-- What a builder handed out is read back.
use Rattle.std.proofs.Common.{◌≡◌, ℕ, ◌^◌, ◌<◌, ◌≤◌, true, cond, List, ◌∷◌, length, map, ap, subst, ◌∙◌}
use Rattle.std.specs.Prelude.{All, Result, IfOk, IfErr, MatchResult}
use Rattle.sctp_wire.specs.declared.checksum.Policy.{Policy}
use Rattle.sctp_packet.specs.declared.packet.PacketParseError.{PacketParseError}
use Rattle.sctp_packet.specs.declared.packet.PacketParseError.TheVariants as faults
use Rattle.sctp_packet.specs.declared.packet.SctpPacket.{SctpPacket}
use Rattle.sctp_chunk.specs.Chunk.{ChunkTree}
use Rattle.sctp_chunk.specs.Grammar.{carried}
use Rattle.sctp_packet.specs.ReadBack.{ChunkReadsBack}
use Rattle.sctp_packet.specs.Packet.{FitsHeader, Accepts, Refuses, lets_through, packet_bytes}
use Rattle.sctp_packet.specs.PacketView.{packet_tree}
use Rattle.sctp_packet.specs.Builder.{BuilderTree, Holds, build}
use Rattle.sctp_packet.proofs.BuilderLemmas.{built_is_packet}
use Rattle.sctp_packet.proofs.LawLemmas.{packet_of, read_back_lem}
use Rattle.sctp_serial.proofs.NumberLemmas.{fits_or_zero}

pub built_back : (policy : Policy) (word sum : ℕ) (builder : BuilderTree) (first : ChunkTree) (others : List ChunkTree) (bytes : List ℕ) (answer : Result SctpPacket PacketParseError)
    → Holds builder (first ∷ others) → bytes ≡ build builder.writes_checksum builder.header sum builder.body
    → FitsHeader builder.header → sum < 2 ^ 32 → All ChunkReadsBack (first ∷ others) → length bytes ≤ 65535
    → lets_through policy word (cond builder.writes_checksum sum 0) ≡ true
    → IfOk answer (λ p. Accepts policy word bytes (packet_tree p)) → IfErr answer (Refuses policy word bytes)
    → MatchResult answer (λ p. packet_tree p ≡ packet_of builder.header (cond builder.writes_checksum sum 0) (map carried (first ∷ others))) (λ fault. fault ≡ faults.Memory)
built_back policy word sum builder first others bytes answer holds are fits small reads short passes ok err =
    let field = cond builder.writes_checksum sum 0 in
    let same : bytes ≡ packet_bytes builder.header field (first ∷ others) =
    are ∙ (ap (build builder.writes_checksum builder.header sum) holds ∙ built_is_packet builder.writes_checksum builder.header sum first others) in
    read_back_lem policy word field builder.header (first ∷ others) answer fits (fits_or_zero builder.writes_checksum sum small) reads
    (subst (λ (b : List ℕ). length b ≤ 65535) same short) passes
    (subst (λ (b : List ℕ). IfOk answer (λ p. Accepts policy word b (packet_tree p))) same ok)
    (subst (λ (b : List ℕ). IfErr answer (Refuses policy word b)) same err)
