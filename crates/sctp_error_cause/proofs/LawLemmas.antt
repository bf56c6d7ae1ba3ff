-- Causes that were written are read, and what is read is not refused.
use Rattle.std.proofs.Common.{◌≡◌, ℕ, false, ◌==◌, List, [], length, refl, sym, ap, subst, ◌∙◌, arith}
use Rattle.std.specs.List.{flat_map}
use Rattle.std.specs.Str.{IsUtf8}
use Rattle.std.proofs.lemmas.List.{append-nil}
use Rattle.sctp_wire.specs.declared.error.ChunkParseError.{ChunkParseError}
use Rattle.sctp_wire.specs.declared.error.ChunkParseError.TheVariants.{InvalidLength, InvalidType, InvalidPadding, InvalidValue, Memory}
use Rattle.sctp_wire.specs.Field.{be16, length_be16}
use Rattle.sctp_wire.specs.Item.{Item}
use Rattle.sctp_wire.specs.Serialize.{IsEncodable, type_of}
use Rattle.sctp_wire.specs.Shape.{Shape, any_length, HasShape}
use Rattle.sctp_wire.specs.Cause.{CauseTree, missing_mandatory_parameter, unrecognized_chunk, no_user_data, cookie_received_while_shutting_down, user_initiated_abort, protocol_violation, unknown_cause, IsCause, SaysCause, ReadsCause, cause_item, cause_type, cause_value, cause_shape, RefusesCause, is_known_cause}
use Rattle.sctp_wire.specs.ReadBack.{CauseReadsBack}
use Rattle.sctp_wire.specs.Text.{IsTextOf, ReadsChars}
use Rattle.sctp_wire.proofs.TextLemmas.{reads_text}
use Rattle.sctp_wire.proofs.ReadBackLemmas.{type_of_typed}
use Rattle.sctp_error_cause.proofs.CauseLemmas.{length_no_user_data}
use Rattle.sctp_wire.proofs.SerializeLemmas.{length_entries}
use Rattle.sctp_wire.proofs.WordLemmas.{neither}

-- a text reads as itself
pub text_of_text : (text : List ℕ) → IsUtf8 text → IsTextOf text text
text_of_text text is = (is.0, subst (λ (x : List ℕ). ReadsChars x is.0 []) (append-nil _ ∙ is.1.1) (reads_text is.0 [] is.1.0), sym is.1.1)

cause_read : (t : CauseTree) → CauseReadsBack t → ReadsCause (cause_value t) t
unfolding cause_value
cause_read (user_initiated_abort reason) h = text_of_text reason h.text
cause_read (protocol_violation information) h = text_of_text information h.text
cause_read _ h = refl

pub cause_written : (t : CauseTree) → CauseReadsBack t → IsEncodable (cause_item t) × IsCause (cause_item t) t
cause_written t h = (h.encodable, record { fits = h.fits; typed = sym (type_of_typed (cause_type t) (cause_value t)); valued = cause_read t h; of_its_variant = h.of_its_variant })

unknown_cause_shape : (typ : ℕ) → is_known_cause typ ≡ false → cause_shape typ ≡ any_length
unknown_cause_shape typ e =
    let p2 = neither (typ == 2) _ e in
    let p6 = neither (typ == 6) _ p2.1 in
    let p9 = neither (typ == 9) _ p6.1 in
    let p10 = neither (typ == 10) _ p9.1 in
    rw (p2.0, p9.0, p10.0) refl

cause_shape_at : (typ k : ℕ) (value : List ℕ) → typ ≡ k → HasShape (cause_shape k) value → HasShape (cause_shape typ) value
cause_shape_at typ k value e h = subst (λ (n : ℕ). HasShape (cause_shape n) value) (sym e) h

pub cause_shaped : (typ : ℕ) (value : List ℕ) (t : CauseTree) → SaysCause typ value t → HasShape (cause_shape typ) value
unfolding cause_value
cause_shaped typ value (missing_mandatory_parameter types) s =
    cause_shape_at typ 2 value s.typed (
      length types,
      flat_map be16 types,
      s.fits.0,
      s.valued,
      omega (arith, length_entries be16 2 length_be16 types),
    )
cause_shaped typ value (unrecognized_chunk chunk) s = cause_shape_at typ 6 value s.typed tt
cause_shaped typ value (no_user_data tsn) s = cause_shape_at typ 9 value s.typed (ap length s.valued ∙ length_no_user_data tsn)
cause_shaped typ value cookie_received_while_shutting_down s = cause_shape_at typ 10 value s.typed (ap length s.valued)
cause_shaped typ value (user_initiated_abort reason) s = cause_shape_at typ 12 value s.typed tt
cause_shaped typ value (protocol_violation information) s = cause_shape_at typ 13 value s.typed tt
cause_shaped typ value (unknown_cause kept bytes) s =
    cause_shape_at typ kept value s.typed (subst (λ (shape : Shape). HasShape shape value) (sym (unknown_cause_shape kept s.of_its_variant)) tt)

pub cause_stands : (i : Item) (t : CauseTree) (fault : ChunkParseError) → IsCause i t → RefusesCause i fault → fault ≡ Memory
cause_stands i t InvalidLength s r = absurd (r.1 (cause_shaped (type_of i) i.value t s))
cause_stands i t InvalidType s r = absurd (r refl)
cause_stands i t InvalidPadding s r = absurd r
cause_stands i t InvalidValue s r = absurd r.2
cause_stands i t Memory s r = refl
