-- A chunk whose parts fit is read back as soon as it can be written.
use Rattle.std.proofs.Common.{◌≡◌, ◌+◌, ◌^◌, ◌<◌, true, List, [], ◌∷◌, length, map, nat_lt, arith}
use Rattle.std.specs.Prelude.{All}
use Rattle.std.specs.List.{list_all}
use Rattle.std.proofs.lemmas.List.{length-append}
use Rattle.std.proofs.lemmas.List.Elements.{All-cons, All-nil}
use Rattle.std.proofs.lemmas.Bool.{and_parts, ltb-true}
use Rattle.sctp_wire.specs.Item.{Item}
use Rattle.sctp_wire.specs.Serialize.{is_encodable, padded_item, inner_items}
use Rattle.sctp_wire.specs.Parameter.{ParameterTree, parameter_item, parameter_is_whole}
use Rattle.sctp_wire.specs.Cause.{CauseTree, cause_item}
use Rattle.sctp_wire.specs.ReadBack.{ParameterReadsBack, CauseReadsBack}
use Rattle.sctp_wire.proofs.SerializeLemmas.{length_item_bytes, length_padded_item}
use Rattle.sctp_packet.specs.Chunk.{ChunkTree, init_chunk, init_ack_chunk, heartbeat_request_chunk, heartbeat_ack_chunk, abort_chunk, error_chunk, cookie_echo_chunk, re_config_chunk, unknown_chunk}
use Rattle.sctp_packet.specs.Written.{chunk_item, chunk_value, chunk_is_whole}
use Rattle.sctp_packet.specs.Grammar.{Each}
use Rattle.sctp_packet.specs.ReadBack.{ChunkReadsBack, IsReadable}
use Rattle.sctp_chunk.proofs.ValueLemmas.{length_init, length_init_ack}
use Rattle.proof_endpoint.specs.Fair.{IsFairParameter, IsFairCause, IsFairInside, IsFair}

-- ---- items inside are shorter than what is around them

abbrev Fits : Item → Type 0
Fits i = 4 + length i.value < 2 ^ 16

inner_one : (i : Item) → length (inner_items (i ∷ [])) ≡ 4 + length i.value
unfolding inner_items
inner_one i = length_item_bytes i

inner_more : (i j : Item) (is : List Item) → length (inner_items (i ∷ j ∷ is)) ≡ length (padded_item i) + length (inner_items (j ∷ is))
unfolding inner_items
inner_more i j is = length-append (padded_item i) (inner_items (j ∷ is))

inner_fit : (is : List Item) → length (inner_items is) < 2 ^ 16 → Each Fits is
inner_fit [] h = tt
inner_fit (i ∷ []) h = (omega (arith, inner_one i, h), tt)
inner_fit (i ∷ j ∷ is) h =
    (omega (arith, inner_more i j is, length_padded_item i, h), inner_fit (j ∷ is) (omega (arith, inner_more i j is, h)))

parameters_read : (ps : List ParameterTree) → length (inner_items (map parameter_item ps)) < 2 ^ 16 → list_all parameter_is_whole ps ≡ true → Each IsFairParameter ps
    → All ParameterReadsBack ps
parameters_read ps short whole fair = each ps (inner_fit (map parameter_item ps) short) whole fair
  where
    each : (qs : List ParameterTree) → Each Fits (map parameter_item qs) → list_all parameter_is_whole qs ≡ true → Each IsFairParameter qs → All ParameterReadsBack qs
    each [] h w f = All-nil ParameterReadsBack
    each (p ∷ qs) h w f =
        let both = and_parts (parameter_is_whole p) (list_all parameter_is_whole qs) w in
        All-cons ParameterReadsBack p qs (record { encodable = h.0; fits = f.0.fits; whole = both.0; of_its_variant = f.0.of_its_variant })
        (each qs h.1 both.1 f.1)

causes_read : (cs : List CauseTree) → length (inner_items (map cause_item cs)) < 2 ^ 16 → Each IsFairCause cs → All CauseReadsBack cs
causes_read cs short fair = each cs (inner_fit (map cause_item cs) short) fair
  where
    each : (qs : List CauseTree) → Each Fits (map cause_item qs) → Each IsFairCause qs → All CauseReadsBack qs
    each [] h f = All-nil CauseReadsBack
    each (c ∷ qs) h f =
        All-cons CauseReadsBack c qs (record { encodable = h.0; fits = f.0.fits; text = f.0.text; of_its_variant = f.0.of_its_variant }) (each qs h.1 f.1)

-- ---- the chunk

readable : (t : ChunkTree) → 4 + length (chunk_value t) < 2 ^ 16 → chunk_is_whole t ≡ true → IsFairInside t → IsReadable t
unfolding chunk_value
readable (init_chunk i) h w f = parameters_read i.parameters (omega (arith, h, length_init i)) w f
readable (init_ack_chunk i) h w f = parameters_read i.parameters (omega (arith, h, length_init_ack i)) w f
readable (heartbeat_request_chunk ps) h w f = parameters_read ps (omega (arith, h)) w f
readable (heartbeat_ack_chunk ps) h w f = parameters_read ps (omega (arith, h)) w f
readable (re_config_chunk ps) h w f = parameters_read ps (omega (arith, h)) w f
readable (abort_chunk reflected cs) h w f = causes_read cs (omega (arith, h)) f
readable (error_chunk cs) h w f = causes_read cs (omega (arith, h)) f
readable (cookie_echo_chunk cookie) h w f = f
readable (unknown_chunk typ flags value) h w f = f
readable t h w f = tt

pub fair_reads : (t : ChunkTree) → IsFair t → is_encodable (chunk_item t) (chunk_is_whole t) ≡ true → ChunkReadsBack t
fair_reads t fair h =
    let both = and_parts (nat_lt (4 + length (chunk_item t).value) (2 ^ 16)) (chunk_is_whole t) h in
    let short : 4 + length (chunk_value t) < 2 ^ 16 = ltb-true (4 + length (chunk_value t)) (2 ^ 16) both.0 in
    record { encodable = short; whole = both.1; fits = fair.fits; readable = readable t short both.1 fair.inside }
