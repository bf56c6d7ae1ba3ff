-- Chunks that were read are read back once they are written, where what is written for them fits.
use Rattle.std.proofs.Common.{◌≡◌, inl, inr, ℕ, suc, ◌+◌, ◌^◌, ◌<◌, ◌≤◌, true, List, [], ◌∷◌, length, map, refl, sym, ap, subst, ◌∙◌, arith}
use Rattle.std.specs.Prelude.{All, ◌↔◌}
use Rattle.std.specs.List.{flat_map, list_all}
use Rattle.std.specs.Str.{IsUtf8, all_scalars}
use Rattle.std.proofs.lemmas.List.{length-append}
use Rattle.std.proofs.lemmas.List.Concat.{flat_map-cons}
use Rattle.std.proofs.lemmas.List.Elements.{All-nil, All-cons}
use Rattle.sctp_wire.specs.Item.{Item, ParsesAll}
use Rattle.sctp_wire.specs.Serialize.{IsEncodable, padded_item, inner_items}
use Rattle.sctp_wire.specs.Text.{ReadsChars, IsTextOf}
use Rattle.sctp_wire.specs.Parameter.{ParameterTree, IsParameter, parameter_item, parameter_is_whole}
use Rattle.sctp_wire.specs.Cause.{CauseTree, IsCause, cause_item, user_initiated_abort, protocol_violation}
use Rattle.sctp_wire.specs.ReadBack.{ParameterReadsBack, CauseReadsBack, IsText}
use Rattle.sctp_wire.proofs.SerializeLemmas.{length_padded_item}
use Rattle.sctp_wire.specs.declared.checksum.Policy.{Policy}
use Rattle.sctp_chunk.specs.declared.forward_tsn.SkippedStream.{SkippedStream}
use Rattle.sctp_chunk.specs.declared.forward_tsn.SkippedStream.TheVariants as skips
use Rattle.sctp_chunk.specs.Chunk.{ChunkTree, init_chunk, init_ack_chunk, heartbeat_request_chunk, heartbeat_ack_chunk, abort_chunk, error_chunk, cookie_echo_chunk, re_config_chunk, forward_tsn_chunk, i_forward_tsn_chunk, unknown_chunk}
use Rattle.sctp_chunk.specs.Written.{chunk_item, chunk_value, chunk_bytes, chunks_bytes, chunk_is_whole, init_fields, is_mid_skip}
use Rattle.sctp_chunk.specs.Grammar.{IsChunk, SaysSkips, carried}
use Rattle.sctp_packet.specs.ReadBack.{ChunkReadsBack, IsReadable}
use Rattle.sctp_packet.specs.Packet.{HeaderTree, PacketTree, IsPacket, Accepts, packet_bytes, canonical}
use Rattle.sctp_control_chunk.proofs.InnerLemmas.{each_fits}
use Rattle.sctp_packet.proofs.ReadBackLemmas.{chunks_tile}
use Rattle.sctp_packet.proofs.PacketLemmas.{length_joined}
use Rattle.sctp_packet.proofs.LawLemmas.{one_packet_lem, packet_of}
use Rattle.std.proofs.lemmas.Bool.{and_from}

-- ---- what was read

-- what each item tells of its value holds of all
each_emits : {X : Type 0} (R : Item → X → Type 0) (Fits P : X → Type 0) → ((i : Item) (x : X) → R i x → Fits x → P x)
    → (bytes : List ℕ) (xs : List X) → ParsesAll R bytes xs [] → All Fits xs → All P xs
each_emits R Fits P tells bytes [] tiles fit = All-nil P
each_emits R Fits P tells bytes (x ∷ xs) tiles fit =
    All-cons P x xs (tells tiles.0 x tiles.3 (fit 0 x (omega arith)))
    (each_emits R Fits P tells tiles.1 xs tiles.4 (λ k d less. fit (suc k) d (omega arith)))

parameter_reads_back : (i : Item) (t : ParameterTree) → IsParameter i t → IsEncodable (parameter_item t) → ParameterReadsBack t
parameter_reads_back i t says fits = record { encodable = fits; fits = says.fits; whole = says.whole; of_its_variant = says.of_its_variant }

scalars_read : (bytes cs : List ℕ) → ReadsChars bytes cs [] → all_scalars cs ≡ true
scalars_read bytes [] reads = refl
scalars_read bytes (c ∷ cs) reads =
    let others = scalars_read reads.0 cs reads.2 in
    elim reads.1 as (λ _. all_scalars (c ∷ cs) ≡ true) [
      | inl char ↦ rw (char.0, others) refl
      | inr none ↦ rw (none.1, others) refl
    ]

text_is_utf8 : (bytes text : List ℕ) → IsTextOf bytes text → IsUtf8 text
text_is_utf8 bytes text is = (is.0, (scalars_read bytes is.0 is.1, sym is.2))

text_read : (i : Item) (t : CauseTree) → IsCause i t → IsText t
text_read i (user_initiated_abort reason) says = text_is_utf8 i.value reason says.valued
text_read i (protocol_violation information) says = text_is_utf8 i.value information says.valued
text_read i _ says = tt

cause_reads_back : (i : Item) (t : CauseTree) → IsCause i t → IsEncodable (cause_item t) → CauseReadsBack t
cause_reads_back i t says fits = record { encodable = fits; fits = says.fits; text = text_read i t says; of_its_variant = says.of_its_variant }

parameters_read_back : (bytes : List ℕ) (ts : List ParameterTree) → ParsesAll IsParameter bytes ts [] → 4 + length (inner_items (map parameter_item ts)) < 2 ^ 16
    → All ParameterReadsBack ts
parameters_read_back bytes ts tiles fit =
    each_emits IsParameter (λ t. IsEncodable (parameter_item t)) ParameterReadsBack parameter_reads_back bytes ts tiles (each_fits parameter_item ts fit)

causes_read_back : (bytes : List ℕ) (ts : List CauseTree) → ParsesAll IsCause bytes ts [] → 4 + length (inner_items (map cause_item ts)) < 2 ^ 16
    → All CauseReadsBack ts
causes_read_back bytes ts tiles fit =
    each_emits IsCause (λ t. IsEncodable (cause_item t)) CauseReadsBack cause_reads_back bytes ts tiles (each_fits cause_item ts fit)

-- ---- parts that agree

parameters_whole : (bytes : List ℕ) (ts : List ParameterTree) → ParsesAll IsParameter bytes ts [] → list_all parameter_is_whole ts ≡ true
parameters_whole bytes [] tiles = refl
parameters_whole bytes (t ∷ ts) tiles = and_from (parameter_is_whole t) (list_all parameter_is_whole ts) tiles.3.whole (parameters_whole tiles.1 ts tiles.4)

skips_whole : (bytes : List ℕ) (ss : List SkippedStream) → SaysSkips bytes ss → list_all is_mid_skip ss ≡ true
skips_whole bytes [] says = refl
skips_whole bytes (skips.ForwardTsn id ssn ∷ ss) says = absurd says.3
skips_whole bytes (skips.IForwardTsn key mid ∷ ss) says = and_from true (list_all is_mid_skip ss) refl (skips_whole says.1 ss says.4)

chunk_whole : (i : Item) (t : ChunkTree) → IsChunk i t → chunk_is_whole t ≡ true
chunk_whole i (init_chunk init) says = parameters_whole says.value.0 init.parameters says.value.2
chunk_whole i (init_ack_chunk init) says = parameters_whole says.value.0 init.parameters says.value.2
chunk_whole i (heartbeat_request_chunk ps) says = parameters_whole i.value ps says.value
chunk_whole i (heartbeat_ack_chunk ps) says = parameters_whole i.value ps says.value
chunk_whole i (re_config_chunk ps) says = parameters_whole i.value ps says.value
chunk_whole i (forward_tsn_chunk tsn ss) says = says.value.1
chunk_whole i (i_forward_tsn_chunk tsn ss) says = skips_whole says.value.0 ss says.value.2
chunk_whole i _ says = refl

-- ---- chunks

chunk_readable : (i : Item) (t : ChunkTree) → IsChunk i t → IsEncodable (chunk_item t) → IsReadable t
unfolding chunk_value init_fields
chunk_readable i (init_chunk init) says fits =
    parameters_read_back says.value.0 init.parameters says.value.2 (omega (arith, fits, length-append (init_fields init) (inner_items (map parameter_item init.parameters))))
chunk_readable i (init_ack_chunk init) says fits =
    parameters_read_back says.value.0 init.parameters says.value.2 (omega (arith, fits, length-append (init_fields init) (inner_items (map parameter_item init.parameters))))
chunk_readable i (heartbeat_request_chunk ps) says fits = parameters_read_back i.value ps says.value fits
chunk_readable i (heartbeat_ack_chunk ps) says fits = parameters_read_back i.value ps says.value fits
chunk_readable i (abort_chunk reflected causes) says fits = causes_read_back i.value causes says.value fits
chunk_readable i (error_chunk causes) says fits = causes_read_back i.value causes says.value fits
chunk_readable i (cookie_echo_chunk cookie) says fits = says.value.1
chunk_readable i (re_config_chunk ps) says fits = parameters_read_back i.value ps says.value fits
chunk_readable i (unknown_chunk typ flags value) says fits = says.of_its_type
chunk_readable i _ says fits = tt

pub chunk_reads_back : (i : Item) (t : ChunkTree) → IsChunk i t → IsEncodable (chunk_item t) → ChunkReadsBack t
chunk_reads_back i t says fits = record { encodable = fits; whole = chunk_whole i t says; fits = says.fits; readable = chunk_readable i t says fits }

-- chunks whose bytes are few fit, each of them
chunks_fit : (chunks : List ChunkTree) → length (chunks_bytes chunks) ≤ 65535 → All (λ t. IsEncodable (chunk_item t)) chunks
unfolding chunks_bytes chunk_bytes
chunks_fit [] short = All-nil (λ t. IsEncodable (chunk_item t))
chunks_fit (t ∷ chunks) short =
    let len : length (flat_map chunk_bytes (t ∷ chunks)) ≡ length (padded_item (chunk_item t)) + length (flat_map chunk_bytes chunks) =
    ap length (flat_map-cons chunk_bytes t chunks) ∙ length-append (chunk_bytes t) (flat_map chunk_bytes chunks) in
    All-cons (λ u. IsEncodable (chunk_item u)) t chunks (omega (arith, short, len, length_padded_item (chunk_item t))) (chunks_fit chunks (omega (arith, short, len)))

cons_same : (t u : ChunkTree) (ts us : List ChunkTree) → t ≡ u → ts ≡ us → t ∷ ts ≡ u ∷ us
cons_same t u ts us a b = cc

-- a chunk that was read has zero in the fields that its kind does not write
carried_same : (bytes : List ℕ) (chunks : List ChunkTree) → ParsesAll IsChunk bytes chunks [] → map carried chunks ≡ chunks
carried_same bytes [] tiles = refl
carried_same bytes (t ∷ chunks) tiles = cons_same (carried t) t (map carried chunks) chunks (sym tiles.3.carries) (carried_same tiles.1 chunks tiles.4)

-- ---- packets

canonical_is_packet : (bytes : List ℕ) (p : PacketTree) → IsPacket bytes p → length (canonical p) ≤ 65535 → IsPacket (canonical p) (packet_of p.header 0 p.chunks)
unfolding packet_bytes
canonical_is_packet bytes p is short =
    let few : length (chunks_bytes p.chunks) ≤ 65535 = omega (arith, short, length_joined p.header 0 (chunks_bytes p.chunks)) in
    let reads = each_emits IsChunk (λ t. IsEncodable (chunk_item t)) ChunkReadsBack chunk_reads_back is.body p.chunks is.chunks (chunks_fit p.chunks few) in
    record {
      body = chunks_bytes p.chunks;
      joined = refl;
      header_fits = is.header_fits;
      checksum_fits = omega arith;
      chunks = subst (λ (cs : List ChunkTree). ParsesAll IsChunk (chunks_bytes p.chunks) cs []) (carried_same is.body p.chunks is.chunks) (chunks_tile p.chunks reads);
    }

same_bytes : (p q : PacketTree) → p.header ≡ q.header → p.chunks ≡ q.chunks → canonical p ≡ canonical q
same_bytes p q a b = ap (λ (h : HeaderTree). packet_bytes h 0 p.chunks) a ∙ ap (packet_bytes q.header 0) b

pub canonical_lem : (policy other_policy : Policy) (word other_word : ℕ) (bytes others : List ℕ) (p q : PacketTree)
    → Accepts policy word bytes p → Accepts other_policy other_word others q → length (canonical p) ≤ 65535 → length (canonical q) ≤ 65535
    → (canonical p ≡ canonical q) ↔ ((p.header ≡ q.header) × (p.chunks ≡ q.chunks))
canonical_lem policy other_policy word other_word bytes others p q a b short shorter =
    let mine = canonical_is_packet bytes p a.packet short in
    let theirs = canonical_is_packet others q b.packet shorter in (
      λ same.
          let e = one_packet_lem (canonical q) (packet_of p.header 0 p.chunks) (packet_of q.header 0 q.chunks)
          (subst (λ (x : List ℕ). IsPacket x (packet_of p.header 0 p.chunks)) same mine) theirs in
          (ap (λ (x : PacketTree). x.header) e, ap (λ (x : PacketTree). x.chunks) e),
      λ same. same_bytes p q same.0 same.1,
    )
