-- Packets: bytes are at most one, and what was built is read back.
use Rattle.std.proofs.Common.{◌≡◌, ◌⊎◌, inl, inr, ℕ, ◌^◌, ◌<◌, ◌≤◌, Bool, true, false, List, [], ◌++◌, length, drop, map, Ok, Err, refl, sym, ap, subst, ◌∙◌, arith}
use Rattle.std.specs.Prelude.{All, Result, IfOk, IfErr, MatchResult}
use Rattle.sctp_wire.specs.Field.{be16, be32}
use Rattle.sctp_wire.specs.Item.{ParsesAll, Item}
use Rattle.sctp_wire.specs.declared.checksum.Policy.{Policy}
use Rattle.sctp_wire.specs.declared.error.ChunkParseError.TheVariants as chunk_faults
use Rattle.sctp_wire.proofs.ParsesAllLemmas.{cut_same, one_tiling, whole_not_broken}
use Rattle.sctp_wire.proofs.RefusalLemmas.{BreaksAs_Breaks, one_break}
use Rattle.sctp_packet.specs.declared.packet.PacketParseError.{PacketParseError}
use Rattle.sctp_packet.specs.declared.packet.PacketParseError.TheVariants as faults
use Rattle.sctp_packet.specs.declared.packet.SctpPacket.{SctpPacket}
use Rattle.sctp_chunk.specs.Chunk.{ChunkTree}
use Rattle.sctp_chunk.specs.Written.{chunks_bytes}
use Rattle.sctp_chunk.specs.Grammar.{IsChunk, RefusesChunk, carried}
use Rattle.sctp_packet.specs.ReadBack.{ChunkReadsBack}
use Rattle.sctp_packet.specs.Packet.{HeaderTree, PacketTree, IsPacket, FitsHeader, Accepts, Refuses, IsFault, lets_through, checksum_field, header_bytes, packet_bytes}
use Rattle.sctp_packet.specs.PacketView.{packet_tree}
use Rattle.sctp_packet.proofs.PacketLemmas.{body_at, field_at, length_joined}
use Rattle.sctp_packet.proofs.OneChunkLemmas.{one_chunk}
use Rattle.sctp_packet.proofs.StandsLemmas.{chunk_fault, chunk_stands}
use Rattle.sctp_packet.proofs.ReadBackLemmas.{chunks_tile}
use Rattle.sctp_wire.proofs.FieldLemmas.{be16_same, be32_same, same32}
use Rattle.sctp_wire.specs.declared.error.ChunkParseError.{ChunkParseError}

abbrev header_of : ℕ → ℕ → ℕ → HeaderTree
header_of s d t = record { source_port = s; destination_port = d; verification_tag = t }

same_header : (s d t s' d' t' : ℕ) → s ≡ s' → d ≡ d' → t ≡ t' → header_of s d t ≡ header_of s' d' t'
same_header s d t s' d' t' a b c = cc

abbrev pub packet_of : HeaderTree → ℕ → List ChunkTree → PacketTree
packet_of h c cs = record { header = h; checksum = c; chunks = cs }

same_packet : (h : HeaderTree) (c : ℕ) (cs : List ChunkTree) (h' : HeaderTree) (c' : ℕ) (cs' : List ChunkTree) → h ≡ h' → c ≡ c' → cs ≡ cs' → packet_of h c cs ≡ packet_of h' c' cs'
same_packet h c cs h' c' cs' a b d = cc

length_header : (h : HeaderTree) → length (header_bytes h) ≡ 8
unfolding header_bytes be16 be32
length_header h = refl

one_header : (h k : HeaderTree) → FitsHeader h → FitsHeader k → header_bytes h ≡ header_bytes k → h ≡ k
unfolding header_bytes
one_header h k fh fk e =
    let a = be16_same h.source_port k.source_port _ _ fh.source_port fk.source_port e in
    let b = be16_same h.destination_port k.destination_port _ _ fh.destination_port fk.destination_port a.1 in
    same_header h.source_port h.destination_port h.verification_tag k.source_port k.destination_port k.verification_tag a.0 b.0 (same32 h.verification_tag k.verification_tag fh.verification_tag fk.verification_tag b.1)

pub one_packet_lem : (bytes : List ℕ) (p q : PacketTree) → IsPacket bytes p → IsPacket bytes q → p ≡ q
one_packet_lem bytes p q h k =
    let parts = cut_same (header_bytes p.header) (be32 p.checksum ++ h.body) (header_bytes q.header) (be32 q.checksum ++ k.body) (length_header p.header ∙ sym (length_header q.header)) (sym h.joined ∙ k.joined) in
    let sums = be32_same p.checksum q.checksum h.body k.body h.checksum_fits k.checksum_fits parts.1 in
    same_packet p.header p.checksum p.chunks q.header q.checksum q.chunks (one_header p.header q.header h.header_fits k.header_fits parts.0) sums.0
    (one_tiling IsChunk one_chunk k.body p.chunks q.chunks (subst (λ (x : List ℕ). ParsesAll IsChunk x p.chunks []) sums.1 h.chunks) k.chunks)

pub packet_long : (bytes : List ℕ) (p : PacketTree) → IsPacket bytes p → 12 ≤ length bytes
packet_long bytes p h = omega (arith, ap length h.joined, length_joined p.header p.checksum h.body)

field_of : (bytes : List ℕ) (p : PacketTree) → IsPacket bytes p → checksum_field bytes ≡ p.checksum
field_of bytes p h = ap checksum_field h.joined ∙ field_at p.header p.checksum h.body h.checksum_fits

body_of : (bytes : List ℕ) (p : PacketTree) (h : IsPacket bytes p) → drop 12 bytes ≡ h.body
body_of bytes p h = ap (drop 12) h.joined ∙ body_at p.header p.checksum h.body

clash : (b : Bool) → b ≡ true → b ≡ false → ⊥
clash b t f = cc

pub not_refused : (i : Item) (t : ChunkTree) (fault : ChunkParseError) → IsChunk i t → RefusesChunk i fault → fault ≡ chunk_faults.Memory
not_refused i t chunk_faults.Memory is r = refl
not_refused i t fault is r = absurd (chunk_stands i t fault is r (λ e. cc))

pub never_both_lem : (policy : Policy) (word : ℕ) (bytes : List ℕ) (e : PacketParseError) (p : PacketTree) → IsFault e → Refuses policy word bytes e → Accepts policy word bytes p → ⊥
never_both_lem policy word bytes faults.TooShort p m r a = omega (arith, packet_long bytes p a.packet, r)
never_both_lem policy word bytes faults.TooLong p m r a = omega (arith, a.short_enough, r)
never_both_lem policy word bytes faults.InvalidChecksum p m r a =
    clash (lets_through policy word p.checksum) a.sum (ap (lets_through policy word) (sym (field_of bytes p a.packet)) ∙ r.1)
never_both_lem policy word bytes (faults.Chunk f) p m r a =
    whole_not_broken IsChunk (drop 12 bytes) p.chunks (subst (λ (x : List ℕ). ParsesAll IsChunk x p.chunks []) (sym (body_of bytes p a.packet)) a.packet.chunks)
    (BreaksAs_Breaks IsChunk RefusesChunk not_refused chunk_fault (drop 12 bytes) f r.2 r.3)
never_both_lem policy word bytes faults.Memory p m r a = m refl

pub one_reason_lem : (policy : Policy) (word : ℕ) (bytes : List ℕ) (e f : PacketParseError) → IsFault e → IsFault f → Refuses policy word bytes e → Refuses policy word bytes f → e ≡ f
one_reason_lem policy word bytes faults.Memory f m n h k = absurd (m refl)
one_reason_lem policy word bytes e faults.Memory m n h k = absurd (n refl)
one_reason_lem policy word bytes faults.TooShort faults.TooShort m n h k = refl
one_reason_lem policy word bytes faults.TooShort faults.TooLong m n h k = absurd (omega (arith, h, k))
one_reason_lem policy word bytes faults.TooShort faults.InvalidChecksum m n h k = absurd (omega (arith, h, k.0.low))
one_reason_lem policy word bytes faults.TooShort (faults.Chunk y) m n h k = absurd (omega (arith, h, k.0.low))
one_reason_lem policy word bytes faults.TooLong faults.TooShort m n h k = absurd (omega (arith, h, k))
one_reason_lem policy word bytes faults.TooLong faults.TooLong m n h k = refl
one_reason_lem policy word bytes faults.TooLong faults.InvalidChecksum m n h k = absurd (omega (arith, h, k.0.high))
one_reason_lem policy word bytes faults.TooLong (faults.Chunk y) m n h k = absurd (omega (arith, h, k.0.high))
one_reason_lem policy word bytes faults.InvalidChecksum faults.TooShort m n h k = absurd (omega (arith, k, h.0.low))
one_reason_lem policy word bytes faults.InvalidChecksum faults.TooLong m n h k = absurd (omega (arith, k, h.0.high))
one_reason_lem policy word bytes faults.InvalidChecksum faults.InvalidChecksum m n h k = refl
one_reason_lem policy word bytes faults.InvalidChecksum (faults.Chunk y) m n h k = absurd (clash (lets_through policy word (checksum_field bytes)) k.1 h.1)
one_reason_lem policy word bytes (faults.Chunk x) faults.TooShort m n h k = absurd (omega (arith, k, h.0.low))
one_reason_lem policy word bytes (faults.Chunk x) faults.TooLong m n h k = absurd (omega (arith, k, h.0.high))
one_reason_lem policy word bytes (faults.Chunk x) faults.InvalidChecksum m n h k = absurd (clash (lets_through policy word (checksum_field bytes)) h.1 k.1)
one_reason_lem policy word bytes (faults.Chunk x) (faults.Chunk y) m n h k =
    ap faults.Chunk (one_break IsChunk RefusesChunk not_refused chunk_fault (drop 12 bytes) x y h.2 k.2 h.3 k.3)

built_accepted : (policy : Policy) (word field : ℕ) (header : HeaderTree) (chunks : List ChunkTree) → FitsHeader header → field < 2 ^ 32 → All ChunkReadsBack chunks
    → length (packet_bytes header field chunks) ≤ 65535 → lets_through policy word field ≡ true
    → Accepts policy word (packet_bytes header field chunks) (packet_of header field (map carried chunks))
unfolding packet_bytes
built_accepted policy word field header chunks fits small reads short sum = record {
  packet = record { body = chunks_bytes chunks; joined = refl; header_fits = fits; checksum_fits = small; chunks = chunks_tile chunks reads };
  short_enough = short;
  sum = sum;
}

pub memory_alone : (policy : Policy) (word : ℕ) (bytes : List ℕ) (p : PacketTree) (e : PacketParseError) → Accepts policy word bytes p → Refuses policy word bytes e → e ≡ faults.Memory
memory_alone policy word bytes p faults.Memory a r = refl
memory_alone policy word bytes p fault a r = absurd (never_both_lem policy word bytes fault p (λ e. cc) r a)

pub read_back_lem : (policy : Policy) (word field : ℕ) (header : HeaderTree) (chunks : List ChunkTree) (answer : Result SctpPacket PacketParseError)
    → FitsHeader header → field < 2 ^ 32 → All ChunkReadsBack chunks → length (packet_bytes header field chunks) ≤ 65535
    → lets_through policy word field ≡ true
    → IfOk answer (λ p. Accepts policy word (packet_bytes header field chunks) (packet_tree p))
    → IfErr answer (Refuses policy word (packet_bytes header field chunks))
    → MatchResult answer (λ p. packet_tree p ≡ packet_of header field (map carried chunks)) (λ fault. fault ≡ faults.Memory)
read_back_lem policy word field header chunks (Ok p) fits small reads short sum ok err =
    one_packet_lem (packet_bytes header field chunks) (packet_tree p) (packet_of header field (map carried chunks)) ok.packet (built_accepted policy word field header chunks fits small reads short sum).packet
read_back_lem policy word field header chunks (Err e) fits small reads short sum ok err =
    memory_alone policy word (packet_bytes header field chunks) (packet_of header field (map carried chunks)) e (built_accepted policy word field header chunks fits small reads short sum) err

pub accepted_alone : (policy : Policy) (word : ℕ) (bytes : List ℕ) (p : PacketTree) (answer : Result SctpPacket PacketParseError)
    → IfOk answer (λ q. Accepts policy word bytes (packet_tree q)) → IfErr answer (Refuses policy word bytes) → Accepts policy word bytes p
    → MatchResult answer (λ q. packet_tree q ≡ p) (λ fault. fault ≡ faults.Memory)
accepted_alone policy word bytes p (Ok q) ok err a = one_packet_lem bytes (packet_tree q) p ok.packet a.packet
accepted_alone policy word bytes p (Err e) ok err a = memory_alone policy word bytes p e a err

same_or_memory : (policy : Policy) (word : ℕ) (bytes : List ℕ) (reason e : PacketParseError) → IsFault reason → Refuses policy word bytes reason → Refuses policy word bytes e
    → (e ≡ reason) ⊎ (e ≡ faults.Memory)
same_or_memory policy word bytes reason faults.Memory m r k = inr refl
same_or_memory policy word bytes reason fault m r k = inl (one_reason_lem policy word bytes fault reason (λ e. cc) m k r)

pub refused_alone : (policy : Policy) (word : ℕ) (bytes : List ℕ) (reason : PacketParseError) (answer : Result SctpPacket PacketParseError)
    → IfOk answer (λ q. Accepts policy word bytes (packet_tree q)) → IfErr answer (Refuses policy word bytes) → IsFault reason → Refuses policy word bytes reason
    → MatchResult answer (λ q. ⊥) (λ fault. (fault ≡ reason) ⊎ (fault ≡ faults.Memory))
refused_alone policy word bytes reason (Ok q) ok err m r = absurd (never_both_lem policy word bytes reason (packet_tree q) m r ok)
refused_alone policy word bytes reason (Err e) ok err m r = same_or_memory policy word bytes reason e m r err
