-- The item that is written for a chunk stands for the chunk, with the fields that its kind does not write at zero.
use Rattle.std.proofs.Common.{◌≡◌, ℕ, ◌^◌, ◌<◌, Bool, true, false, cond, List, [], ◌∷◌, ◌++◌, map, refl, subst, arith}
use Rattle.std.specs.Prelude.{All}
use Rattle.std.specs.List.{flat_map, list_all}
use Rattle.std.proofs.lemmas.List.{append-nil}
use Rattle.std.proofs.lemmas.List.Concat.{flat_map-cons}
use Rattle.sctp_serial.specs.declared.types.StreamKey.{StreamKey}
use Rattle.sctp_serial.specs.declared.types.StreamKey.TheVariants as keys
use Rattle.sctp_wire.specs.Field.{be32}
use Rattle.sctp_wire.specs.Item.{ParsesAll}
use Rattle.sctp_wire.specs.Serialize.{inner_items}
use Rattle.sctp_wire.specs.Parameter.{ParameterTree, IsParameter, parameter_item}
use Rattle.sctp_wire.specs.Cause.{CauseTree, IsCause, cause_item}
use Rattle.sctp_wire.specs.ReadBack.{ParameterReadsBack, CauseReadsBack}
use Rattle.sctp_parameter.proofs.LawLemmas.{parameter_written}
use Rattle.sctp_error_cause.proofs.LawLemmas.{cause_written}
use Rattle.sctp_wire.proofs.ReadBackLemmas.{parses_all_padded, parses_all_inner}
use Rattle.sctp_wire.proofs.RefusalLemmas.{ParsesAll_map}
use Rattle.sctp_chunk.specs.declared.forward_tsn.SkippedStream.{SkippedStream}
use Rattle.sctp_chunk.specs.declared.forward_tsn.SkippedStream.TheVariants as skips
use Rattle.sctp_chunk.specs.Chunk.{ChunkTree, FragmentTree, data_chunk, init_chunk, init_ack_chunk, heartbeat_request_chunk, heartbeat_ack_chunk, abort_chunk, error_chunk, cookie_echo_chunk, shutdown_complete_chunk, idata_chunk, re_config_chunk, forward_tsn_chunk, i_forward_tsn_chunk, unknown_chunk}
use Rattle.sctp_chunk.specs.Written.{flag, fragment_flags, reflected_flag, chunk_item, chunk_value, chunk_bytes, chunks_bytes, data_value, idata_value, skip_bytes, forward_value, key_flag, is_mid_skip}
use Rattle.sctp_chunk.specs.Grammar.{IsChunk, SaysSkips, carried}
use Rattle.sctp_packet.specs.ReadBack.{ChunkReadsBack}
use Rattle.sctp_serial.proofs.NumberLemmas.{fits_or_zero}

flags_say : (i u b e : Bool) → (i ≡ flag (fragment_flags i u b e) 8) × (u ≡ flag (fragment_flags i u b e) 4) × (b ≡ flag (fragment_flags i u b e) 2) × (e ≡ flag (fragment_flags i u b e) 1)
flags_say true true true true = (refl, refl, refl, refl)
flags_say true true true false = (refl, refl, refl, refl)
flags_say true true false true = (refl, refl, refl, refl)
flags_say true true false false = (refl, refl, refl, refl)
flags_say true false true true = (refl, refl, refl, refl)
flags_say true false true false = (refl, refl, refl, refl)
flags_say true false false true = (refl, refl, refl, refl)
flags_say true false false false = (refl, refl, refl, refl)
flags_say false true true true = (refl, refl, refl, refl)
flags_say false true true false = (refl, refl, refl, refl)
flags_say false true false true = (refl, refl, refl, refl)
flags_say false true false false = (refl, refl, refl, refl)
flags_say false false true true = (refl, refl, refl, refl)
flags_say false false true false = (refl, refl, refl, refl)
flags_say false false false true = (refl, refl, refl, refl)
flags_say false false false false = (refl, refl, refl, refl)

reflected_says : (r : Bool) → r ≡ flag (reflected_flag r) 1
reflected_says true = refl
reflected_says false = refl

key_fits : (key : StreamKey) → key_flag key < 2 ^ 16
key_fits (keys.Ordered id) = omega arith
key_fits (keys.Unordered id) = omega arith

skips_say : (ss : List SkippedStream) → list_all is_mid_skip ss ≡ true → SaysSkips (flat_map skip_bytes ss) ss
unfolding skip_bytes
skips_say [] h = refl
skips_say (skips.ForwardTsn id ssn ∷ ss) h = cc
skips_say (skips.IForwardTsn key mid ∷ ss) h =
    (skip_bytes (skips.IForwardTsn key mid), flat_map skip_bytes ss, flat_map-cons skip_bytes (skips.IForwardTsn key mid) ss, (key_flag key, key_fits key, refl, refl), skips_say ss h)

zero_or : (b : Bool) (p : ℕ) → p < 2 ^ 32 → cond b 0 p < 2 ^ 32
zero_or true p h = omega arith
zero_or false p h = h

-- what a field for one of two holds, once the other is zero
cond_with_other_zeroed : (b : Bool) (p n : ℕ) → cond b p n ≡ cond b (cond b p 0) (cond b 0 n)
cond_with_other_zeroed true p n = refl
cond_with_other_zeroed false p n = refl

twice : (b : Bool) (p : ℕ) → cond b p 0 ≡ cond b (cond b p 0) 0
twice true p = refl
twice false p = refl

twice_zero : (b : Bool) (p : ℕ) → cond b 0 p ≡ cond b 0 (cond b 0 p)
twice_zero true p = refl
twice_zero false p = refl

abbrev idata_of : ℕ → Bool → FragmentTree → ℕ → ℕ → ChunkTree
idata_of t i f p n = idata_chunk t i (record f { ssn = 0; ppid = p; fsn = n })

same_idata : (t : ℕ) (i : Bool) (f : FragmentTree) (p n q m : ℕ) → p ≡ q → n ≡ m → idata_of t i f p n ≡ idata_of t i f q m
same_idata t i f p n q m a b = cc

idata_says : (t : ℕ) (i : Bool) (f : FragmentTree) → chunk_value (idata_chunk t i f) ≡ idata_value 0 t (record f { ssn = 0; ppid = cond f.is_beginning f.ppid 0; fsn = cond f.is_beginning 0 f.fsn })
unfolding chunk_value idata_value
idata_says t i f = rw (← cond_with_other_zeroed) refl

parameters_tile : (ps : List ParameterTree) → All ParameterReadsBack ps → ParsesAll IsParameter (inner_items (map parameter_item ps)) ps []
parameters_tile ps h = parses_all_inner IsParameter parameter_item ParameterReadsBack parameter_written ps h

causes_tile : (cs : List CauseTree) → All CauseReadsBack cs → ParsesAll IsCause (inner_items (map cause_item cs)) cs []
causes_tile cs h = parses_all_inner IsCause cause_item CauseReadsBack cause_written cs h

i_forward_says : (tsn : ℕ) (ss : List SkippedStream) → list_all is_mid_skip ss ≡ true
    → (entries : List ℕ) × (chunk_value (i_forward_tsn_chunk tsn ss) ≡ be32 tsn ++ entries) × SaysSkips entries ss
unfolding chunk_value forward_value
i_forward_says tsn ss h = (flat_map skip_bytes ss, refl, skips_say ss h)

pub chunk_carried : (t : ChunkTree) → ChunkReadsBack t → IsChunk (chunk_item t) (carried t)
unfolding chunk_value data_value
chunk_carried (data_chunk tsn immediate f) h =
    let says = flags_say immediate f.is_unordered f.is_beginning f.is_end in
    record {
      kind = refl;
      of_its_type = tt;
      flags = record { immediate_flag = says.0; unordered = says.1; beginning = says.2; ending = says.3 };
      value = refl;
      fits = (h.fits.0, record { stream_id = h.fits.1.stream_id; ssn = h.fits.1.ssn; mid = omega arith; fsn = omega arith; ppid = h.fits.1.ppid });
      carries = refl;
    }
chunk_carried (idata_chunk tsn immediate f) h =
    let says = flags_say immediate f.is_unordered f.is_beginning f.is_end in
    record {
      kind = refl;
      of_its_type = tt;
      flags = record { immediate_flag = says.0; unordered = says.1; beginning = says.2; ending = says.3 };
      value = (0, omega arith, idata_says tsn immediate f);
      fits = (h.fits.0, record { stream_id = h.fits.1.stream_id; ssn = omega arith; mid = h.fits.1.mid; fsn = zero_or f.is_beginning f.fsn h.fits.1.fsn; ppid = fits_or_zero f.is_beginning f.ppid h.fits.1.ppid });
      carries = same_idata tsn immediate f _ _ _ _ (twice f.is_beginning f.ppid) (twice_zero f.is_beginning f.fsn);
    }
chunk_carried (init_chunk init) h = record { kind = refl; of_its_type = tt; flags = tt; value = (inner_items (map parameter_item init.parameters), refl, parameters_tile init.parameters h.readable); fits = h.fits; carries = refl }
chunk_carried (init_ack_chunk init) h = record { kind = refl; of_its_type = tt; flags = tt; value = (inner_items (map parameter_item init.parameters), refl, parameters_tile init.parameters h.readable); fits = h.fits; carries = refl }
chunk_carried (heartbeat_request_chunk ps) h = record { kind = refl; of_its_type = tt; flags = tt; value = parameters_tile ps h.readable; fits = h.fits; carries = refl }
chunk_carried (heartbeat_ack_chunk ps) h = record { kind = refl; of_its_type = tt; flags = tt; value = parameters_tile ps h.readable; fits = h.fits; carries = refl }
chunk_carried (abort_chunk r cs) h = record { kind = refl; of_its_type = tt; flags = reflected_says r; value = causes_tile cs h.readable; fits = h.fits; carries = refl }
chunk_carried (error_chunk cs) h = record { kind = refl; of_its_type = tt; flags = tt; value = causes_tile cs h.readable; fits = h.fits; carries = refl }
chunk_carried (cookie_echo_chunk cookie) h = record { kind = refl; of_its_type = tt; flags = tt; value = (refl, h.readable); fits = h.fits; carries = refl }
chunk_carried (shutdown_complete_chunk r) h = record { kind = refl; of_its_type = tt; flags = reflected_says r; value = refl; fits = h.fits; carries = refl }
chunk_carried (re_config_chunk ps) h = record { kind = refl; of_its_type = tt; flags = tt; value = parameters_tile ps h.readable; fits = h.fits; carries = refl }
chunk_carried (forward_tsn_chunk tsn ss) h = record { kind = refl; of_its_type = tt; flags = tt; value = (refl, h.whole); fits = h.fits; carries = refl }
chunk_carried (i_forward_tsn_chunk tsn ss) h = record { kind = refl; of_its_type = tt; flags = tt; value = i_forward_says tsn ss h.whole; fits = h.fits; carries = refl }
chunk_carried (unknown_chunk typ flags value) h = record { kind = refl; of_its_type = h.readable; flags = refl; value = refl; fits = tt; carries = refl }
chunk_carried _ h = record { kind = refl; of_its_type = tt; flags = tt; value = refl; fits = h.fits; carries = refl }

-- chunks that were written are read from the front, up to the end
pub chunks_tile : (chunks : List ChunkTree) → All ChunkReadsBack chunks → ParsesAll IsChunk (chunks_bytes chunks) (map carried chunks) []
unfolding chunks_bytes chunk_bytes
chunks_tile chunks h =
    let tiles = parses_all_padded (λ i t. IsChunk i (carried t)) chunk_item ChunkReadsBack (λ t reads. (reads.encodable, chunk_carried t reads)) chunks [] h in
    subst (λ (b : List ℕ). ParsesAll IsChunk b (map carried chunks) []) (append-nil _)
    (ParsesAll_map (λ i t. IsChunk i (carried t)) IsChunk carried (λ i t means. means) _ chunks [] tiles)
