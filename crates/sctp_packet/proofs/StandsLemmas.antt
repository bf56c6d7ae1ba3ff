-- What stands for a chunk is refused for want of memory alone, and an item has one fault.
use Rattle.std.proofs.Common.{◌≡◌, ◌≢◌, inl, inr, ℕ, ◌+◌, ◌*◌, Bool, true, cond, List, [], ◌∷◌, ◌++◌, length, drop, sym, ap, subst, ◌∙◌, append_assoc, arith}
use Rattle.std.specs.List.{flat_map, list_all}
use Rattle.std.proofs.lemmas.List.{length-append, drop_at}
use Rattle.sctp_wire.specs.Field.{be16, be32, length_be32}
use Rattle.sctp_wire.specs.Item.{Item, ParsesAll}
use Rattle.sctp_wire.specs.Refusal.{FailsToParseAs}
use Rattle.sctp_wire.specs.Parameter.{ParameterTree, IsParameter, RefusesParameter, parameter_shape, HasNoResult}
use Rattle.sctp_wire.specs.Serialize.{type_of}
use Rattle.sctp_wire.specs.Cause.{CauseTree, IsCause, RefusesCause, cause_shape}
use Rattle.sctp_wire.specs.declared.error.ChunkParseError.{ChunkParseError}
use Rattle.sctp_wire.specs.declared.error.ChunkParseError.TheVariants.{Memory}
use Rattle.sctp_wire.proofs.ParsesAllLemmas.{whole_not_broken}
use Rattle.sctp_wire.proofs.SerializeLemmas.{length_entries}
use Rattle.sctp_wire.proofs.RefusalLemmas.{BreaksAs_Breaks, one_break, one_fault_as}
use Rattle.sctp_parameter.proofs.LawLemmas.{parameter_stands}
use Rattle.sctp_error_cause.proofs.LawLemmas.{cause_stands}
use Rattle.sctp_chunk.specs.declared.forward_tsn.SkippedStream.{SkippedStream}
use Rattle.sctp_chunk.specs.Chunk.{ChunkTree, FragmentTree, InitTree, SackTree, data_chunk, init_chunk, init_ack_chunk, sack_chunk, heartbeat_request_chunk, heartbeat_ack_chunk, abort_chunk, shutdown_chunk, shutdown_ack_chunk, error_chunk, cookie_echo_chunk, cookie_ack_chunk, shutdown_complete_chunk, idata_chunk, re_config_chunk, forward_tsn_chunk, i_forward_tsn_chunk, unknown_chunk}
use Rattle.sctp_chunk.specs.Written.{is_known_chunk, data_value, idata_value, init_fields, sack_value, block_bytes, length_block_bytes, tsn_bytes, skip_bytes, forward_value, is_ssn_skip}
use Rattle.sctp_chunk.specs.Grammar.{IsChunk, RefusesChunk, ValueShape, any_value, exactly, at_least, in_steps, by_counts, parameters_behind, of_causes, value_shape, known_shape, HasChunkShape, IsFaulty, IsCounted, SaysInit, SaysSkips, FitsSack}
use Rattle.sctp_chunk.proofs.SkipLemmas.{length_ssn_skips}
use Rattle.sctp_packet.proofs.OneChunkLemmas.{length_front, length_says}

parameter_fault : (i : Item) (fault other : ChunkParseError) → RefusesParameter i fault → RefusesParameter i other → fault ≢ Memory → other ≢ Memory → fault ≡ other
parameter_fault i = one_fault_as parameter_shape HasNoResult (type_of i) (type_of i) i.value

cause_fault : (i : Item) (fault other : ChunkParseError) → RefusesCause i fault → RefusesCause i other → fault ≢ Memory → other ≢ Memory → fault ≡ other
cause_fault i = one_fault_as cause_shape (λ _ _. ⊥) (type_of i) (type_of i) i.value

whole_parameters : (bytes : List ℕ) (ps : List ParameterTree) (fault : ChunkParseError) → ParsesAll IsParameter bytes ps [] → FailsToParseAs IsParameter RefusesParameter bytes fault → fault ≢ Memory → ⊥
whole_parameters bytes ps fault t b memory = whole_not_broken IsParameter bytes ps t (BreaksAs_Breaks IsParameter RefusesParameter parameter_stands parameter_fault bytes fault b memory)

whole_causes : (bytes : List ℕ) (cs : List CauseTree) (fault : ChunkParseError) → ParsesAll IsCause bytes cs [] → FailsToParseAs IsCause RefusesCause bytes fault → fault ≢ Memory → ⊥
whole_causes bytes cs fault t b memory = whole_not_broken IsCause bytes cs t (BreaksAs_Breaks IsCause RefusesCause cause_stands cause_fault bytes fault b memory)

-- ---- one fault

one_faulty : (shape : ValueShape) (value : List ℕ) (fault other : ChunkParseError) → IsFaulty shape value fault → IsFaulty shape value other → fault ≢ Memory → other ≢ Memory → fault ≡ other
one_faulty any_value value fault other p q m n = absurd p
one_faulty (parameters_behind k) value fault other (inl p) (inl q) m n = p.0 ∙ sym q.0
one_faulty (parameters_behind k) value fault other (inl p) (inr q) m n = absurd (omega (arith, p.1, q.0))
one_faulty (parameters_behind k) value fault other (inr p) (inl q) m n = absurd (omega (arith, q.1, p.0))
one_faulty (parameters_behind k) value fault other (inr p) (inr q) m n = one_break IsParameter RefusesParameter parameter_stands parameter_fault (drop k value) fault other p.1 q.1 m n
one_faulty of_causes value fault other p q m n = one_break IsCause RefusesCause cause_stands cause_fault value fault other p q m n
one_faulty _ value fault other p q m n = p.0 ∙ sym q.0

pub chunk_fault : (i : Item) (fault other : ChunkParseError) → RefusesChunk i fault → RefusesChunk i other → fault ≢ Memory → other ≢ Memory → fault ≡ other
chunk_fault i fault other (inl p) q m n = absurd (m p)
chunk_fault i fault other (inr p) (inl q) m n = absurd (n q)
chunk_fault i fault other (inr p) (inr q) m n = one_faulty (value_shape i.first) i.value fault other p q m n

-- ---- what stands is not at fault

not_faulty : (shape : ValueShape) (value : List ℕ) (fault : ChunkParseError) → HasChunkShape shape value → IsFaulty shape value fault → fault ≢ Memory → ⊥
not_faulty any_value value fault h p m = p
not_faulty (exactly n) value fault h p m = p.1 h
not_faulty (at_least n) value fault h p m = omega (arith, h, p.1)
not_faulty (in_steps n width) value fault h (e, inl p) m = omega (arith, h.0, p)
not_faulty (in_steps n width) value fault h (e, inr p) m = p h.1
not_faulty by_counts value fault h p m = p.1 h
not_faulty (parameters_behind n) value fault h (inl p) m = omega (arith, h.0, p.1)
not_faulty (parameters_behind n) value fault h (inr p) m = whole_parameters (drop n value) h.1.0 fault h.1.1 p.1 m
not_faulty of_causes value fault h p m = whole_causes value h.0 fault h.1 p m

init_shaped : (value : List ℕ) (t : InitTree) → SaysInit value t → HasChunkShape (parameters_behind 16) value
init_shaped value t h =
    let behind : drop 16 value ≡ h.0 = ap (drop 16) h.1 ∙ drop_at (init_fields t) h.0 16 (length_front t) in
    (omega (arith, ap length h.1, length-append (init_fields t) h.0, length_front t), (t.parameters, subst (λ (b : List ℕ). ParsesAll IsParameter b t.parameters []) (sym behind) h.2))

none_dropped : (ps : List ParameterTree) (value : List ℕ) → ParsesAll IsParameter value ps [] → HasChunkShape (parameters_behind 0) value
none_dropped ps value h = (omega arith, (ps, h))

sack_shaped : (value : List ℕ) (s : SackTree) → FitsSack s → value ≡ sack_value s → IsCounted value
unfolding sack_value
sack_shaped value s fits e = (
  be32 s.cumulative_tsn_ack ++ be32 s.a_rwnd,
  length s.gap_ack_blocks,
  length s.duplicate_tsns,
  flat_map block_bytes s.gap_ack_blocks ++ flat_map tsn_bytes s.duplicate_tsns,
  omega (arith, length-append (be32 s.cumulative_tsn_ack) (be32 s.a_rwnd), length_be32 s.cumulative_tsn_ack, length_be32 s.a_rwnd),
  fits.few_blocks,
  fits.few_duplicates,
  e ∙ sym (append_assoc (be32 s.cumulative_tsn_ack) (be32 s.a_rwnd) _),
  omega (arith, length-append (flat_map block_bytes s.gap_ack_blocks) (flat_map tsn_bytes s.duplicate_tsns), length_entries block_bytes 4 length_block_bytes s.gap_ack_blocks, length_entries tsn_bytes 4 (λ t. length_be32 t.0) s.duplicate_tsns),
)

forward_shaped : (value : List ℕ) (t : ℕ) (ss : List SkippedStream) → list_all is_ssn_skip ss ≡ true → value ≡ forward_value t ss → HasChunkShape (in_steps 4 4) value
unfolding forward_value
forward_shaped value t ss kind e =
    let len : length value ≡ 4 + length ss * 4 = omega (arith, ap length e, length-append (be32 t) (flat_map skip_bytes ss), length_be32 t, length_ssn_skips ss kind) in
    (omega arith, omega arith)

length_skips : (bytes : List ℕ) (ss : List SkippedStream) → SaysSkips bytes ss → length bytes ≡ length ss * 8
length_skips bytes [] h = omega (arith, ap length h)
length_skips bytes (s ∷ ss) h = omega (arith, ap length h.2, length-append h.0 h.1, length_says h.0 s h.3, length_skips h.1 ss h.4)

i_forward_shaped : (value : List ℕ) (t : ℕ) (ss : List SkippedStream) → (entries : List ℕ) × (value ≡ be32 t ++ entries) × SaysSkips entries ss → HasChunkShape (in_steps 4 8) value
i_forward_shaped value t ss h =
    let len : length value ≡ 4 + length ss * 8 = omega (arith, ap length h.1, length-append (be32 t) h.0, length_be32 t, length_skips h.0 ss h.2) in
    (omega arith, omega arith)

pub length_data : (t : ℕ) (f : FragmentTree) → length (data_value t f) ≡ 12 + length f.payload
unfolding data_value be16 be32
length_data t f = omega arith

pub length_idata : (r t : ℕ) (f : FragmentTree) → length (idata_value r t f) ≡ 16 + length f.payload
unfolding idata_value be16 be32
length_idata r t f = omega arith

chunk_shaped : (i : Item) (t : ChunkTree) → IsChunk i t → HasChunkShape (value_shape i.first) i.value
chunk_shaped i (data_chunk t a f) h = rw h.kind (omega (arith, ap length h.value, length_data t f))
chunk_shaped i (init_chunk t) h = rw h.kind (init_shaped i.value t h.value)
chunk_shaped i (init_ack_chunk t) h = rw h.kind (init_shaped i.value t h.value)
chunk_shaped i (sack_chunk s) h = rw h.kind (sack_shaped i.value s h.fits h.value)
chunk_shaped i (heartbeat_request_chunk ps) h = rw h.kind (none_dropped ps i.value h.value)
chunk_shaped i (heartbeat_ack_chunk ps) h = rw h.kind (none_dropped ps i.value h.value)
chunk_shaped i (abort_chunk r cs) h = rw h.kind (cs, h.value)
chunk_shaped i (shutdown_chunk t) h = rw h.kind (ap length h.value ∙ length_be32 t)
chunk_shaped i shutdown_ack_chunk h = rw h.kind (ap length h.value)
chunk_shaped i (error_chunk cs) h = rw h.kind (cs, h.value)
chunk_shaped i (cookie_echo_chunk c) h = rw h.kind (omega (arith, ap length h.value.0, h.value.1))
chunk_shaped i cookie_ack_chunk h = rw h.kind (ap length h.value)
chunk_shaped i (shutdown_complete_chunk r) h = rw h.kind (ap length h.value)
chunk_shaped i (idata_chunk t a f) h = rw h.kind (omega (arith, ap length h.value.2, length_idata h.value.0 t f))
chunk_shaped i (re_config_chunk ps) h = rw h.kind (none_dropped ps i.value h.value)
chunk_shaped i (forward_tsn_chunk t ss) h = rw h.kind (forward_shaped i.value t ss h.value.1 h.value.0)
chunk_shaped i (i_forward_tsn_chunk t ss) h = rw h.kind (i_forward_shaped i.value t ss h.value)
chunk_shaped i (unknown_chunk typ flags v) h =
    subst (λ (shape : ValueShape). HasChunkShape shape i.value)
    (sym (ap (λ (b : Bool). cond b (known_shape i.first) any_value) (ap is_known_chunk h.kind ∙ h.of_its_type))) tt

pub chunk_stands : (i : Item) (t : ChunkTree) (fault : ChunkParseError) → IsChunk i t → RefusesChunk i fault → fault ≢ Memory → ⊥
chunk_stands i t fault h (inl p) m = m p
chunk_stands i t fault h (inr p) m = not_faulty (value_shape i.first) i.value fault (chunk_shaped i t h) p m
