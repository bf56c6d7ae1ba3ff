-- Packets read in place: what is left of one, and that a view has the answer of the reader.
use Rattle.std.proofs.Common.{◌≡◌, ◌⊎◌, ℕ, List, [], ◌∷◌, length, Ok, Err, refl, sym, ap, subst, arith}
use Rattle.std.specs.Prelude.{Result, IfOk, IfErr, MatchResult}
use Rattle.sctp_wire.specs.Item.{Item, Takes, TakesNone, ParsesAll}
use Rattle.sctp_wire.specs.declared.checksum.Policy.{Policy}
use Rattle.sctp_wire.specs.declared.error.ChunkParseError.{ChunkParseError}
use Rattle.sctp_wire.specs.declared.error.ChunkParseError.TheVariants as chunk_faults
use Rattle.sctp_wire.proofs.ParsesAllLemmas.{one_item_lem, takes_four, one_tiling}
use Rattle.sctp_chunk.specs.Chunk.{ChunkTree}
use Rattle.sctp_chunk.specs.Grammar.{IsChunk}
use Rattle.sctp_packet.specs.declared.packet.PacketParseError.{PacketParseError}
use Rattle.sctp_packet.specs.declared.packet.PacketParseError.TheVariants as faults
use Rattle.sctp_packet.specs.declared.packet.SctpPacket.{SctpPacket}
use Rattle.sctp_packet.specs.Packet.{HeaderTree, Accepts, Refuses, IsFault}
use Rattle.sctp_packet.specs.Faults.{IsPacketFault}
use Rattle.sctp_packet.specs.PacketView.{packet_tree}
use Rattle.sctp_packet.specs.View.{ViewTree, AreLeft, viewed_packet, Views}
use Rattle.sctp_packet.proofs.OneChunkLemmas.{one_chunk}
use Rattle.sctp_packet.proofs.LawLemmas.{packet_of, accepted_alone, refused_alone}

-- the item in front is the first chunk that is left, and the others are left behind it
pub left_some : (bytes rest : List ℕ) (i : Item) (chunks : List ChunkTree) → Takes bytes i rest → ParsesAll IsChunk bytes chunks []
    → (t : ChunkTree) × (ts : List ChunkTree) × (chunks ≡ t ∷ ts) × IsChunk i t × ParsesAll IsChunk rest ts []
left_some bytes rest i [] taken all = absurd (omega (arith, takes_four bytes i rest taken, ap length all))
left_some bytes rest i (c ∷ cs) taken all =
    let same = one_item_lem bytes all.1 rest all.0 i all.2 taken in
    (c, cs, refl, subst (λ (j : Item). IsChunk j c) same.0 all.3, subst (λ (b : List ℕ). ParsesAll IsChunk b cs []) same.1 all.4)

-- where no item is in front, none is left
pub left_none : (bytes : List ℕ) (chunks : List ChunkTree) → TakesNone bytes → ParsesAll IsChunk bytes chunks [] → chunks ≡ []
left_none bytes [] none all = refl
left_none bytes (c ∷ cs) none all = absurd (none all.0 all.1 all.2)

no_bytes : (bytes : List ℕ) (chunks : List ChunkTree) → chunks ≡ [] → ParsesAll IsChunk bytes chunks [] → bytes ≡ []
no_bytes bytes chunks none all = subst (λ (cs : List ChunkTree). ParsesAll IsChunk bytes cs []) none all

pub ended_lem : (bytes : List ℕ) (chunks : List ChunkTree) → TakesNone bytes → ParsesAll IsChunk bytes chunks [] → bytes ≡ []
ended_lem bytes chunks none all = no_bytes bytes chunks (left_none bytes chunks none all) all

-- chunks that are left are one list
pub left_alone : (v : ViewTree) (xs ys : List ChunkTree) → AreLeft v xs → AreLeft v ys → xs ≡ ys
left_alone v xs ys a b = one_tiling IsChunk one_chunk v.rest xs ys a b

-- a packet that was built of what a view left is the one that the view accepted
pub accepted_built : (policy : Policy) (word : ℕ) (bytes : List ℕ) (v : ViewTree) (h : HeaderTree) (k : ℕ) (chunks : List ChunkTree)
    → Views policy word bytes v → AreLeft v chunks → h ≡ v.header → k ≡ v.checksum → Accepts policy word bytes (packet_of h k chunks)
accepted_built policy word bytes v h k chunks views left a b =
    let same : Accepts policy word bytes (packet_of v.header v.checksum chunks) =
    subst (λ (cs : List ChunkTree). Accepts policy word bytes (packet_of v.header v.checksum cs)) (left_alone v views.0 chunks views.2 left) views.1 in
    subst (λ (x : HeaderTree). Accepts policy word bytes (packet_of x k chunks)) (sym a)
    (subst (λ (n : ℕ). Accepts policy word bytes (packet_of v.header n chunks)) (sym b) same)

-- no memory for a chunk is none for the packet
pub memory_refused : (policy : Policy) (word : ℕ) (bytes : List ℕ) (fault : ChunkParseError) (e : PacketParseError) → fault ≡ chunk_faults.Memory → IsPacketFault fault e
    → Refuses policy word bytes e
memory_refused policy word bytes fault e none is =
    let same : e ≡ faults.Memory = subst (λ (f : ChunkParseError). IsPacketFault f e) none is in
    subst (λ (x : PacketParseError). Refuses policy word bytes x) (sym same) tt

pub same_answer_lem : (policy : Policy) (word : ℕ) (bytes : List ℕ) (viewed : Result ViewTree PacketParseError) (answer : Result SctpPacket PacketParseError)
    → IfOk viewed (Views policy word bytes) → IfErr viewed (Refuses policy word bytes) → IfErr viewed IsFault
    → IfOk answer (λ q. Accepts policy word bytes (packet_tree q)) → IfErr answer (Refuses policy word bytes)
    → MatchResult viewed
    (λ v. MatchResult answer (λ q. (chunks : List ChunkTree) × AreLeft v chunks × (packet_tree q ≡ viewed_packet v chunks)) (λ fault. fault ≡ faults.Memory))
    (λ reason. MatchResult answer (λ q. ⊥) (λ fault. (fault ≡ reason) ⊎ (fault ≡ faults.Memory)))
same_answer_lem policy word bytes (Ok v) (Ok q) seen refused real ok err =
    (seen.0, seen.2, accepted_alone policy word bytes (viewed_packet v seen.0) (Ok q) ok err seen.1)
same_answer_lem policy word bytes (Ok v) (Err e) seen refused real ok err = accepted_alone policy word bytes (viewed_packet v seen.0) (Err e) ok err seen.1
same_answer_lem policy word bytes (Err reason) answer seen refused real ok err = refused_alone policy word bytes reason answer ok err real refused
