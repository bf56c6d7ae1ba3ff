-- A value of a length that its type allows says a cause.
use Rattle.std.proofs.Common.{◌≡◌, ℕ, ◌*◌, ◌^◌, ◌<◌, ◌≤◌, false, List, [], ◌++◌, length, drop, refl, sym, ap, ◌∙◌, arith}
use Rattle.std.specs.Prelude.{All}
use Rattle.std.specs.List.{flat_map}
use Rattle.std.proofs.lemmas.List.{append-nil, length-append, length-drop, nil_from_length}
use Rattle.sctp_wire.specs.Field.{be16, be32, length_be32}
use Rattle.sctp_wire.specs.Shape.{HasShape}
use Rattle.sctp_wire.specs.Cause.{CauseTree, missing_mandatory_parameter, unrecognized_chunk, no_user_data, cookie_received_while_shutting_down, user_initiated_abort, protocol_violation, unknown_cause, SaysCause, cause_value, cause_shape, is_known_cause}
use Rattle.sctp_wire.proofs.ItemLemmas.{IsBytes}
use Rattle.sctp_wire.proofs.PresentLemmas.{IsBytes_drop, number16, number32, entries_in, text_in, by_type}
use Rattle.sctp_wire.proofs.WordLemmas.{tsn}
use Rattle.sctp_wire.proofs.FieldLemmas.{be32_same}
use Rattle.sctp_error_cause.proofs.CauseLemmas.{all_counted, count_fits}

-- the value says some cause of this type
abbrev SaysSome : List ℕ → ℕ → Type 0
SaysSome value typ = (t : CauseTree) × SaysCause typ value t

types_in : (n : ℕ) (bytes : List ℕ) → IsBytes bytes → length bytes ≡ n * 2 → (types : List ℕ) × All (λ typ. typ < 2 ^ 16) types × (bytes ≡ flat_map be16 types)
types_in = entries_in be16 (λ typ. typ < 2 ^ 16) 2 number16

missing_says : (value : List ℕ) → IsBytes value → HasShape (cause_shape 2) value → SaysSome value 2
missing_says value fits shape =
    let entries : List ℕ = drop 4 value in
    let long : 4 ≤ length value = omega (arith, ap length shape.3, length-append (be32 shape.0) shape.1, length_be32 shape.0) in
    let count = number32 value fits long in
    let same = be32_same count.0 shape.0 entries shape.1 count.1 shape.2 (sym count.2 ∙ shape.3) in
    let len : length entries ≡ 2 * count.0 = omega (arith, ap length same.1, shape.4, same.0) in
    let types = types_in count.0 entries (IsBytes_drop 4 value fits) (omega (arith, len)) in (
      missing_mandatory_parameter types.0,
      record {
        typed = refl;
        valued = all_counted value entries types.0 count.0 count.2 len types.2;
        of_its_variant = tt;
        fits = (count_fits entries types.0 count.0 count.1 len types.2, types.1);
      },
    )

no_user_data_says : (value : List ℕ) → IsBytes value → length value ≡ 4 → SaysSome value 9
unfolding cause_value
no_user_data_says value fits len =
    let a = number32 value fits (omega (arith, len)) in
    let empty : drop 4 value ≡ [] = nil_from_length (drop 4 value) (omega (arith, len, length-drop 4 value)) in (
      no_user_data (tsn a.0),
      record {
        typed = refl;
        valued = a.2 ∙ ap (λ (x : List ℕ). be32 a.0 ++ x) empty ∙ append-nil (be32 a.0);
        of_its_variant = tt;
        fits = a.1;
      },
    )

cookie_says : (value : List ℕ) → length value ≡ 0 → SaysSome value 10
unfolding cause_value
cookie_says value len = (cookie_received_while_shutting_down, record { typed = refl; valued = nil_from_length value len; of_its_variant = tt; fits = tt })

-- causes of these types are bytes, or a text
bytes_say : (value : List ℕ) → SaysSome value 6 × SaysSome value 12 × SaysSome value 13
unfolding cause_value
bytes_say value =
    let text = text_in value in (
      (unrecognized_chunk value, record { typed = refl; valued = refl; of_its_variant = tt; fits = tt }),
      (user_initiated_abort text.0, record { typed = refl; valued = text.1; of_its_variant = tt; fits = tt }),
      (protocol_violation text.0, record { typed = refl; valued = text.1; of_its_variant = tt; fits = tt }),
    )

unknown_says : (typ : ℕ) (value : List ℕ) → is_known_cause typ ≡ false → SaysSome value typ
unfolding cause_value
unknown_says typ value other = (unknown_cause typ value, record { typed = refl; valued = refl; of_its_variant = other; fits = tt })

-- what is shaped so says some cause
abbrev SaysWhereShaped : List ℕ → ℕ → Type 0
SaysWhereShaped value typ = HasShape (cause_shape typ) value → SaysSome value typ

pub shaped_says : (typ : ℕ) (value : List ℕ) → IsBytes value → SaysWhereShaped value typ
shaped_says typ value fits =
    let bytes = bytes_say value in
    by_type typ 2 (SaysWhereShaped value) (missing_says value fits)
    (λ p2. by_type typ 6 (SaysWhereShaped value) (λ shape. bytes.0)
    (λ p6. by_type typ 9 (SaysWhereShaped value) (no_user_data_says value fits)
    (λ p9. by_type typ 10 (SaysWhereShaped value) (cookie_says value)
    (λ p10. by_type typ 12 (SaysWhereShaped value) (λ shape. bytes.1)
    (λ p12. by_type typ 13 (SaysWhereShaped value) (λ shape. bytes.2)
    (λ p13 shape. unknown_says typ value (rw (p2, p6, p9, p10, p12, p13) refl)))))))
