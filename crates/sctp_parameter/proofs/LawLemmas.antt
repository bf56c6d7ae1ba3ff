-- Parameters that were written are read, and what is read is not refused.
use Rattle.std.proofs.Common.{◌≡◌, inl, inr, ℕ, ◌<◌, ◌^◌, false, ◌==◌, List, ◌++◌, length, refl, sym, ap, subst, ◌∙◌, None, Some, arith}
use Rattle.sctp_wire.specs.declared.error.ChunkParseError.{ChunkParseError}
use Rattle.sctp_wire.specs.declared.error.ChunkParseError.TheVariants.{InvalidLength, InvalidType, InvalidPadding, InvalidValue, Memory}
use Rattle.sctp_wire.specs.Field.{be32, length_be32}
use Rattle.sctp_wire.specs.Item.{Item}
use Rattle.sctp_wire.specs.Serialize.{IsEncodable, type_of}
use Rattle.sctp_wire.specs.Shape.{Shape, any_length, HasShape}
use Rattle.sctp_wire.specs.Parameter.{ParameterTree, heartbeat_info, state_cookie, outgoing_reset_request, incoming_reset_request, ssn_tsn_reset_request, reset_response, add_outgoing_streams_request, add_incoming_streams_request, supported_extensions, forward_tsn_supported, zero_checksum_acceptable, unknown_parameter, IsParameter, SaysParameter, parameter_item, parameter_type, parameter_value, parameter_shape, HasNoResult, RefusesParameter, is_known_parameter}
use Rattle.sctp_wire.specs.ReadBack.{ParameterReadsBack}
use Rattle.sctp_wire.proofs.FieldLemmas.{be32_same}
use Rattle.sctp_wire.proofs.ParsesAllLemmas.{cut_same}
use Rattle.sctp_wire.proofs.ReadBackLemmas.{type_of_typed}
use Rattle.sctp_parameter.proofs.ParameterLemmas.{length_outgoing, length_incoming, length_response, length_zero_checksum}
use Rattle.sctp_wire.proofs.WordLemmas.{neither, clash}

pub parameter_written : (t : ParameterTree) → ParameterReadsBack t → IsEncodable (parameter_item t) × IsParameter (parameter_item t) t
parameter_written t h = (h.encodable, record { fits = h.fits; typed = sym (type_of_typed (parameter_type t) (parameter_value t)); valued = refl; whole = h.whole; of_its_variant = h.of_its_variant })

unknown_shape : (typ : ℕ) → is_known_parameter typ ≡ false → parameter_shape typ ≡ any_length
unknown_shape typ e =
    let p1 = neither (typ == 1) _ e in
    let p7 = neither (typ == 7) _ p1.1 in
    let p13 = neither (typ == 13) _ p7.1 in
    let p14 = neither (typ == 14) _ p13.1 in
    let p15 = neither (typ == 15) _ p14.1 in
    let p16 = neither (typ == 16) _ p15.1 in
    let p17 = neither (typ == 17) _ p16.1 in
    let p18 = neither (typ == 18) _ p17.1 in
    let zero_checksum = neither (typ == 0x8001) _ p18.1 in
    let last = neither (typ == 0x8008) (typ == 0xC000) zero_checksum.1 in
    rw (p13.0, p14.0, p16.0, zero_checksum.0, last.1) refl

shape_at : (typ k : ℕ) (value : List ℕ) → typ ≡ k → HasShape (parameter_shape k) value → HasShape (parameter_shape typ) value
shape_at typ k value e h = subst (λ (n : ℕ). HasShape (parameter_shape n) value) (sym e) h

-- the value of a parameter has a length that its type allows
pub parameter_shaped : (typ : ℕ) (value : List ℕ) (t : ParameterTree) → SaysParameter typ value t → HasShape (parameter_shape typ) value
unfolding parameter_value
parameter_shaped typ value (heartbeat_info info) s = shape_at typ 1 value s.typed tt
parameter_shaped typ value (state_cookie cookie) s = shape_at typ 7 value s.typed tt
parameter_shaped typ value (outgoing_reset_request request response tsn streams) s =
    let len = ap length s.valued ∙ length_outgoing request response tsn streams in
    shape_at typ 13 value s.typed (omega (arith, len), omega (arith, len))
parameter_shaped typ value (incoming_reset_request request streams) s =
    let len = ap length s.valued ∙ length_incoming request streams in
    shape_at typ 14 value s.typed (omega (arith, len), omega (arith, len))
parameter_shaped typ value (ssn_tsn_reset_request kept bytes) s = shape_at typ 15 value (s.typed ∙ s.of_its_variant) tt
parameter_shaped typ value (reset_response response result None None) s =
    shape_at typ 16 value s.typed (inl (ap length s.valued ∙ length_response response result None None))
parameter_shaped typ value (reset_response response result None (Some receiver)) s = absurd (clash (sym s.whole))
parameter_shaped typ value (reset_response response result (Some sender) None) s = absurd (clash (sym s.whole))
parameter_shaped typ value (reset_response response result (Some sender) (Some receiver)) s =
    shape_at typ 16 value s.typed (inr (omega (arith, ap length s.valued, length_response response result (Some sender) (Some receiver), length_be32 sender.0, length_be32 receiver.0)))
parameter_shaped typ value (add_outgoing_streams_request kept bytes) s = shape_at typ 17 value (s.typed ∙ s.of_its_variant) tt
parameter_shaped typ value (add_incoming_streams_request kept bytes) s = shape_at typ 18 value (s.typed ∙ s.of_its_variant) tt
parameter_shaped typ value (supported_extensions chunk_types) s = shape_at typ 0x8008 value s.typed tt
parameter_shaped typ value forward_tsn_supported s = shape_at typ 0xC000 value s.typed (ap length s.valued)
parameter_shaped typ value (zero_checksum_acceptable method) s = shape_at typ 0x8001 value s.typed (ap length s.valued ∙ length_zero_checksum method)
parameter_shaped typ value (unknown_parameter kept bytes) s =
    shape_at typ kept value s.typed (subst (λ (shape : Shape). HasShape shape value) (sym (unknown_shape kept s.of_its_variant)) tt)

-- two responses of the same bytes have the same result
pub same_result : (a b m n : ℕ) (x y : List ℕ) → m < 2 ^ 32 → n < 2 ^ 32 → be32 a ++ (be32 m ++ x) ≡ be32 b ++ (be32 n ++ y) → m ≡ n
same_result a b m n x y hm hn e =
    (be32_same m n x y hm hn (cut_same (be32 a) (be32 m ++ x) (be32 b) (be32 n ++ y) (length_be32 a ∙ sym (length_be32 b)) e).1).0

-- and no result over 6
parameter_has_result : (typ : ℕ) (value : List ℕ) (t : ParameterTree) → SaysParameter typ value t → HasNoResult typ value → ⊥
unfolding parameter_value
parameter_has_result typ value (ssn_tsn_reset_request kept bytes) s bad = omega (arith, s.typed, s.of_its_variant, bad.typed)
parameter_has_result typ value (reset_response response result sender receiver) s bad =
    let same : result ≡ bad.result = same_result response bad.response_seq_nbr result bad.result _ bad.tsns (omega (arith, s.of_its_variant)) bad.fits (sym s.valued ∙ bad.valued) in
    omega (arith, s.of_its_variant, bad.none, same)
parameter_has_result typ value (add_outgoing_streams_request kept bytes) s bad = omega (arith, s.typed, s.of_its_variant, bad.typed)
parameter_has_result typ value (add_incoming_streams_request kept bytes) s bad = omega (arith, s.typed, s.of_its_variant, bad.typed)
parameter_has_result typ value (unknown_parameter kept bytes) s bad =
    clash (subst (λ (k : ℕ). is_known_parameter k ≡ false) (sym s.typed ∙ bad.typed) s.of_its_variant)
parameter_has_result typ value _ s bad = omega (arith, s.typed, bad.typed)

pub parameter_stands : (i : Item) (t : ParameterTree) (fault : ChunkParseError) → IsParameter i t → RefusesParameter i fault → fault ≡ Memory
parameter_stands i t InvalidLength s r = absurd (r.1 (parameter_shaped (type_of i) i.value t s))
parameter_stands i t InvalidType s r = absurd (r refl)
parameter_stands i t InvalidPadding s r = absurd r
parameter_stands i t InvalidValue s r = absurd (parameter_has_result (type_of i) i.value t s r.2)
parameter_stands i t Memory s r = refl
