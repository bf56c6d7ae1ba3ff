-- From what the reader and the writer of packets answer to what `probe` answers.
use Rattle.std.proofs.Common.{◌≡◌, ℕ, ◌≤◌, Bool, true, List, [], ◌∷◌, ◌++◌, length, Err, refl, sym, ap, subst, ◌∙◌, arith}
use Rattle.std.specs.Prelude.{IfSome}
use Rattle.std.proofs.lemmas.List.{append-nil}
use Rattle.std.proofs.lemmas.List.Concat.{flat_map-cons}
use Rattle.sctp_wire.specs.Field.{be16, be32}
use Rattle.sctp_wire.specs.Serialize.{IsEncodable, padded_item}
use Rattle.sctp_wire.specs.declared.checksum.Policy.{Policy}
use Rattle.sctp_packet.specs.declared.packet.PacketParseError.{PacketParseError}
use Rattle.sctp_packet.specs.declared.packet.PacketParseError.TheVariants as faults
use Rattle.sctp_packet.specs.Chunk.{ChunkTree}
use Rattle.sctp_packet.specs.Written.{chunk_item, chunk_value, chunk_bytes, chunks_bytes, sack_value}
use Rattle.sctp_packet.specs.Packet.{HeaderTree, PacketTree, Accepts, Refuses, header_bytes, unsummed_bytes, packet_bytes}
use Rattle.sctp_packet.specs.Builder.{BuilderTree, so_far, build}
use Rattle.sctp_packet.proofs.BuilderLemmas.{built_is_packet}
use Rattle.sctp_probe.specs.Checksum.{byte_sum}
use Rattle.sctp_probe.specs.Probing.{default_policy, packet_word, Probes, answer_of, refusal_of, reply_chunk, summed_packet, reply_header, reply_bytes}
use Rattle.sctp_packet.proofs.LawLemmas.{packet_long}

-- the word that was handed in is the packet's
pub accepted : (policy : Policy) (word : ℕ) (bytes : List ℕ) (p : PacketTree) → policy ≡ default_policy → (12 ≤ length bytes → word ≡ packet_word bytes)
    → Accepts policy word bytes p → Accepts default_policy (packet_word bytes) bytes p
accepted policy word bytes p e same h =
    let w : word ≡ packet_word bytes = same (packet_long bytes p h.packet) in
    subst (λ (q : Policy). Accepts q (packet_word bytes) bytes p) e (subst (λ (n : ℕ). Accepts policy n bytes p) w h)

refused_at : (word : ℕ) (bytes : List ℕ) (fault : PacketParseError) → (12 ≤ length bytes → word ≡ packet_word bytes)
    → Refuses default_policy word bytes fault → Refuses default_policy (packet_word bytes) bytes fault
refused_at word bytes faults.TooShort same h = h
refused_at word bytes faults.TooLong same h = h
refused_at word bytes faults.InvalidChecksum same h = subst (λ (n : ℕ). Refuses default_policy n bytes faults.InvalidChecksum) (same h.0.low) h
refused_at word bytes (faults.Chunk fault) same h = subst (λ (n : ℕ). Refuses default_policy n bytes (faults.Chunk fault)) (same h.0.low) h
refused_at word bytes faults.Memory same h = tt

reported_at : (bytes : List ℕ) (fault : PacketParseError) → Refuses default_policy (packet_word bytes) bytes fault → IfSome (answer_of (Err (refusal_of fault))) (Probes bytes)
reported_at bytes faults.TooShort h = record { fault = faults.TooShort; is_fault = λ e. cc; refused = h; number = refl }
reported_at bytes faults.TooLong h = record { fault = faults.TooLong; is_fault = λ e. cc; refused = h; number = refl }
reported_at bytes faults.InvalidChecksum h = record { fault = faults.InvalidChecksum; is_fault = λ e. cc; refused = h; number = refl }
reported_at bytes (faults.Chunk fault) h = record { fault = faults.Chunk fault; is_fault = λ e. cc; refused = h; number = refl }
reported_at bytes faults.Memory h = tt

-- a refusal is reported by its number
pub reported : (policy : Policy) (word : ℕ) (bytes : List ℕ) (fault : PacketParseError) → policy ≡ default_policy → (12 ≤ length bytes → word ≡ packet_word bytes)
    → Refuses policy word bytes fault → IfSome (answer_of (Err (refusal_of fault))) (Probes bytes)
reported policy word bytes fault e same h =
    reported_at bytes fault (refused_at word bytes fault same (subst (λ (q : Policy). Refuses q word bytes fault) e h))

-- ---- the reply

pub reply_encodable : (tsn : ℕ) → IsEncodable (chunk_item (reply_chunk tsn))
unfolding chunk_value sack_value be16 be32
reply_encodable tsn = omega arith

pub length_reply : (tsn : ℕ) → length (chunk_bytes (reply_chunk tsn)) ≡ 16
unfolding chunk_bytes padded_item chunk_value sack_value be16 be32
length_reply tsn = refl

one_chunk : (t : ChunkTree) → chunks_bytes (t ∷ []) ≡ chunk_bytes t
unfolding chunks_bytes
one_chunk t = flat_map-cons chunk_bytes t [] ∙ append-nil (chunk_bytes t)

-- the packet so far is there, and it is what is summed
so_far_reply : (h : HeaderTree) (tsn : ℕ) → so_far h (chunk_bytes (reply_chunk tsn)) ≡ unsummed_bytes h (chunk_bytes (reply_chunk tsn))
unfolding chunk_bytes padded_item
so_far_reply h tsn = refl

length_unsummed : (h : HeaderTree) (body : List ℕ) → 12 ≤ length (unsummed_bytes h body)
unfolding unsummed_bytes header_bytes be16 be32
length_unsummed h body = omega arith

word_unsummed : (h : HeaderTree) (body : List ℕ) → packet_word (unsummed_bytes h body) ≡ byte_sum (unsummed_bytes h body)
unfolding unsummed_bytes header_bytes be16 be32
word_unsummed h body = refl

reply_built : (h : HeaderTree) (tsn : ℕ) (body unsummed bytes : List ℕ) (word : ℕ) → body ≡ chunk_bytes (reply_chunk tsn) → unsummed ≡ so_far h body
    → (12 ≤ length unsummed → word ≡ packet_word unsummed) → bytes ≡ build true h word body → bytes ≡ summed_packet h (reply_chunk tsn ∷ [])
reply_built h tsn body unsummed bytes word held far summed made =
    let t : ChunkTree = reply_chunk tsn in
    let all : body ≡ chunks_bytes (t ∷ []) = held ∙ sym (one_chunk t) in
    let whole : unsummed ≡ unsummed_bytes h (chunks_bytes (t ∷ [])) =
    far ∙ ap (so_far h) held ∙ so_far_reply h tsn ∙ ap (unsummed_bytes h) (sym (one_chunk t)) in
    let w : word ≡ byte_sum (unsummed_bytes h (chunks_bytes (t ∷ []))) =
    summed (subst (λ (x : List ℕ). 12 ≤ length x) (sym whole) (length_unsummed h (chunks_bytes (t ∷ []))))
    ∙ ap packet_word whole ∙ word_unsummed h (chunks_bytes (t ∷ [])) in
    made ∙ ap (λ (x : List ℕ). build true h word x) all ∙ built_is_packet true h word t []
    ∙ ap (λ (n : ℕ). packet_bytes h n (t ∷ [])) w

abbrev pub builder : HeaderTree → ℕ → List ℕ → BuilderTree
builder h limit body = record { header = h; limit = limit; writes_checksum = true; body = body }

-- the packet of a builder to which the reply's chunk was added
pub reply_made : (h : HeaderTree) (limit tsn : ℕ) (start held : BuilderTree) (t : ChunkTree) (unsummed bytes : List ℕ) (word : ℕ)
    → start ≡ builder (reply_header h) limit [] → t ≡ reply_chunk tsn → held ≡ record start { body = start.body ++ chunk_bytes t } → unsummed ≡ so_far held.header held.body
    → (12 ≤ length unsummed → word ≡ packet_word unsummed) → bytes ≡ build held.writes_checksum held.header word held.body → bytes ≡ reply_bytes h tsn
reply_made h limit tsn start held t unsummed bytes word s is e far summed made =
    let body : held.body ≡ chunk_bytes (reply_chunk tsn) =
    ap (λ (b : BuilderTree). b.body) e ∙ ap (λ (b : BuilderTree). b.body ++ chunk_bytes t) s ∙ ap chunk_bytes is in
    let header : held.header ≡ reply_header h = ap (λ (b : BuilderTree). b.header) e ∙ ap (λ (b : BuilderTree). b.header) s in
    let on : held.writes_checksum ≡ true = ap (λ (b : BuilderTree). b.writes_checksum) e ∙ ap (λ (b : BuilderTree). b.writes_checksum) s in
    reply_built (reply_header h) tsn held.body unsummed bytes word body (far ∙ ap (λ (x : HeaderTree). so_far x held.body) header) summed
    (made ∙ ap (λ (w : Bool). build w held.header word held.body) on ∙ ap (λ (x : HeaderTree). build true x word held.body) header)
