-- A value of a length that its type allows says a parameter, where a response has one of the seven results.
use Rattle.std.proofs.Common.{◌≡◌, inl, inr, ℕ, ◌/◌, ◌%◌, ◌-◌, ◌^◌, ◌<◌, ◌≤◌, false, List, [], ◌++◌, length, drop, None, Some, refl, sym, ap, ◌∙◌, arith}
use Rattle.std.specs.Prelude.{All}
use Rattle.std.specs.List.{flat_map}
use Rattle.std.proofs.lemmas.Bool.{cases_lt}
use Rattle.std.proofs.lemmas.List.{append-nil, length-drop, nil_from_length}
use Rattle.sctp_serial.specs.declared.api.StreamId.{StreamId}
use Rattle.sctp_wire.specs.Field.{be32}
use Rattle.sctp_wire.specs.Shape.{HasShape}
use Rattle.sctp_wire.specs.Parameter.{ParameterTree, heartbeat_info, state_cookie, outgoing_reset_request, incoming_reset_request, ssn_tsn_reset_request, reset_response, add_outgoing_streams_request, add_incoming_streams_request, supported_extensions, forward_tsn_supported, zero_checksum_acceptable, unknown_parameter, SaysParameter, parameter_value, parameter_shape, stream_bytes, HasNoResult, is_known_parameter}
use Rattle.sctp_wire.proofs.ItemLemmas.{IsBytes}
use Rattle.sctp_wire.proofs.PresentLemmas.{IsBytes_drop, number16, number32, entries_in, by_type}
use Rattle.sctp_wire.proofs.WordLemmas.{tsn}
use Rattle.sctp_parameter.specs.declared.reset.ReconfigurationResponseResult.{ReconfigurationResponseResult}
use Rattle.sctp_parameter.specs.declared.reset.ReconfigurationResponseResult.TheVariants as results
use Rattle.sctp_parameter.specs.ParameterViews.{result_number}
use Rattle.sctp_parameter.proofs.LawLemmas.{same_result}

-- the value says some parameter of this type
abbrev SaysSome : List ℕ → ℕ → Type 0
SaysSome value typ = (t : ParameterTree) × SaysParameter typ value t

stream_in : (bytes : List ℕ) → IsBytes bytes → 2 ≤ length bytes → (id : StreamId) × (id.0 < 2 ^ 16) × (bytes ≡ stream_bytes id ++ drop 2 bytes)
stream_in bytes fits long = let n = number16 bytes fits long in (record { 0 = n.0 }, n.1, n.2)

streams_in : (bytes : List ℕ) → IsBytes bytes → length bytes % 2 ≡ 0 → (ids : List StreamId) × All (λ id. id.0 < 2 ^ 16) ids × (bytes ≡ flat_map stream_bytes ids)
streams_in bytes fits even = entries_in stream_bytes (λ id. id.0 < 2 ^ 16) 2 stream_in (length bytes / 2) bytes fits (omega (arith, even))

outgoing_says : (value : List ℕ) → IsBytes value → 12 ≤ length value → (length value - 12) % 2 ≡ 0 → SaysSome value 13
unfolding parameter_value
outgoing_says value fits long even =
    let a = number32 value fits (omega (arith, long)) in
    let first : List ℕ = drop 4 value in
    let some_first : IsBytes first = IsBytes_drop 4 value fits in
    let len_first : length first ≡ length value - 4 = length-drop 4 value in
    let b = number32 first some_first (omega (arith, long, len_first)) in
    let second : List ℕ = drop 4 first in
    let some_second : IsBytes second = IsBytes_drop 4 first some_first in
    let len_second : length second ≡ length first - 4 = length-drop 4 first in
    let c = number32 second some_second (omega (arith, long, len_first, len_second)) in
    let third : List ℕ = drop 4 second in
    let len_third : length third ≡ length second - 4 = length-drop 4 second in
    let ids = streams_in third (IsBytes_drop 4 second some_second) (omega (arith, long, even, len_first, len_second, len_third)) in (
      outgoing_reset_request a.0 b.0 (tsn c.0) ids.0,
      record {
        typed = refl;
        valued = a.2 ∙ ap (λ (x : List ℕ). be32 a.0 ++ x) (b.2 ∙ ap (λ (x : List ℕ). be32 b.0 ++ x) (c.2 ∙ ap (λ (x : List ℕ). be32 c.0 ++ x) ids.2));
        whole = refl;
        of_its_variant = tt;
        fits = (a.1, b.1, c.1, ids.1);
      },
    )

incoming_says : (value : List ℕ) → IsBytes value → 4 ≤ length value → (length value - 4) % 2 ≡ 0 → SaysSome value 14
unfolding parameter_value
incoming_says value fits long even =
    let a = number32 value fits long in
    let first : List ℕ = drop 4 value in
    let len_first : length first ≡ length value - 4 = length-drop 4 value in
    let ids = streams_in first (IsBytes_drop 4 value fits) (omega (arith, long, even, len_first)) in (
      incoming_reset_request a.0 ids.0,
      record { typed = refl; valued = a.2 ∙ ap (λ (x : List ℕ). be32 a.0 ++ x) ids.2; whole = refl; of_its_variant = tt; fits = (a.1, ids.1) },
    )

seven_results : (outcome : ReconfigurationResponseResult) → result_number outcome ≤ 6
seven_results results.SuccessNothingToDo = omega arith
seven_results results.SuccessPerformed = omega arith
seven_results results.Denied = omega arith
seven_results results.ErrorWrongSSN = omega arith
seven_results results.ErrorRequestAlreadyInProgress = omega arith
seven_results results.ErrorBadSequenceNumber = omega arith
seven_results results.InProgress = omega arith

-- a response with one of the seven results
pub response_speaks : (value rest tsns : List ℕ) (a m : ℕ) (outcome : ReconfigurationResponseResult) → value ≡ be32 a ++ rest → rest ≡ be32 m ++ tsns → m < 2 ^ 32
    → result_number outcome ≡ m → HasNoResult 16 value → ⊥
response_speaks value rest tsns a m outcome e f fits is bad =
    let same : m ≡ bad.result = same_result a bad.response_seq_nbr m bad.result tsns bad.tsns fits bad.fits (sym (e ∙ ap (λ (x : List ℕ). be32 a ++ x) f) ∙ bad.valued) in
    omega (arith, same, bad.none, is, seven_results outcome)

one_of_seven : (value : List ℕ) (a m : ℕ) (x : List ℕ) → m < 2 ^ 32 → value ≡ be32 a ++ (be32 m ++ x) → (HasNoResult 16 value → ⊥) → m ≤ 6
one_of_seven value a m x fits e speaks =
    elim (cases_lt 6 m) [
      | inl over ↦ absurd (speaks (record { response_seq_nbr = a; result = m; tsns = x; typed = refl; valued = e; none = over; fits = fits }))
      | inr under ↦ under
    ]

short_response_says : (value : List ℕ) → IsBytes value → length value ≡ 8 → (HasNoResult 16 value → ⊥) → SaysSome value 16
unfolding parameter_value
short_response_says value fits len speaks =
    let a = number32 value fits (omega (arith, len)) in
    let first : List ℕ = drop 4 value in
    let len_first : length first ≡ length value - 4 = length-drop 4 value in
    let b = number32 first (IsBytes_drop 4 value fits) (omega (arith, len, len_first)) in
    let second : List ℕ = drop 4 first in
    let len_second : length second ≡ length first - 4 = length-drop 4 first in
    let all : value ≡ be32 a.0 ++ (be32 b.0 ++ second) = a.2 ∙ ap (λ (x : List ℕ). be32 a.0 ++ x) b.2 in
    let empty : second ≡ [] = nil_from_length second (omega (arith, len, len_first, len_second)) in (
      reset_response a.0 b.0 None None,
      record {
        typed = refl;
        valued = all ∙ ap (λ (x : List ℕ). be32 a.0 ++ (be32 b.0 ++ x)) empty;
        whole = refl;
        of_its_variant = one_of_seven value a.0 b.0 second b.1 all speaks;
        fits = (a.1, b.1, tt, tt);
      },
    )

long_response_says : (value : List ℕ) → IsBytes value → length value ≡ 16 → (HasNoResult 16 value → ⊥) → SaysSome value 16
unfolding parameter_value
long_response_says value fits len speaks =
    let a = number32 value fits (omega (arith, len)) in
    let first : List ℕ = drop 4 value in
    let some_first : IsBytes first = IsBytes_drop 4 value fits in
    let len_first : length first ≡ length value - 4 = length-drop 4 value in
    let b = number32 first some_first (omega (arith, len, len_first)) in
    let second : List ℕ = drop 4 first in
    let some_second : IsBytes second = IsBytes_drop 4 first some_first in
    let len_second : length second ≡ length first - 4 = length-drop 4 first in
    let c = number32 second some_second (omega (arith, len, len_first, len_second)) in
    let third : List ℕ = drop 4 second in
    let len_third : length third ≡ length second - 4 = length-drop 4 second in
    let d = number32 third (IsBytes_drop 4 second some_second) (omega (arith, len, len_first, len_second, len_third)) in
    let fourth : List ℕ = drop 4 third in
    let empty : fourth ≡ [] = nil_from_length fourth (omega (arith, len, len_first, len_second, len_third, length-drop 4 third)) in
    let tsns : second ≡ be32 c.0 ++ be32 d.0 =
    c.2 ∙ ap (λ (x : List ℕ). be32 c.0 ++ x) (d.2 ∙ ap (λ (x : List ℕ). be32 d.0 ++ x) empty ∙ append-nil (be32 d.0)) in
    let all : value ≡ be32 a.0 ++ (be32 b.0 ++ second) = a.2 ∙ ap (λ (x : List ℕ). be32 a.0 ++ x) b.2 in (
      reset_response a.0 b.0 (Some (tsn c.0)) (Some (tsn d.0)),
      record {
        typed = refl;
        valued = all ∙ ap (λ (x : List ℕ). be32 a.0 ++ (be32 b.0 ++ x)) tsns;
        whole = refl;
        of_its_variant = one_of_seven value a.0 b.0 second b.1 all speaks;
        fits = (a.1, b.1, c.1, d.1);
      },
    )

zero_checksum_says : (value : List ℕ) → IsBytes value → length value ≡ 4 → SaysSome value 0x8001
unfolding parameter_value
zero_checksum_says value fits len =
    let a = number32 value fits (omega (arith, len)) in
    let empty : drop 4 value ≡ [] = nil_from_length (drop 4 value) (omega (arith, len, length-drop 4 value)) in (
      zero_checksum_acceptable a.0,
      record {
        typed = refl;
        valued = a.2 ∙ ap (λ (x : List ℕ). be32 a.0 ++ x) empty ∙ append-nil (be32 a.0);
        whole = refl;
        of_its_variant = tt;
        fits = a.1;
      },
    )

forward_tsn_says : (value : List ℕ) → length value ≡ 0 → SaysSome value 0xC000
unfolding parameter_value
forward_tsn_says value len = (forward_tsn_supported, record { typed = refl; valued = nil_from_length value len; whole = refl; of_its_variant = tt; fits = tt })

-- parameters of these types are bytes
bytes_say : (value : List ℕ)
    → SaysSome value 1 × SaysSome value 7 × SaysSome value 15 × SaysSome value 17 × SaysSome value 18 × SaysSome value 0x8008
unfolding parameter_value
bytes_say value = (
  (heartbeat_info value, record { typed = refl; valued = refl; whole = refl; of_its_variant = tt; fits = tt }),
  (state_cookie value, record { typed = refl; valued = refl; whole = refl; of_its_variant = tt; fits = tt }),
  (ssn_tsn_reset_request 15 value, record { typed = refl; valued = refl; whole = refl; of_its_variant = refl; fits = tt }),
  (add_outgoing_streams_request 17 value, record { typed = refl; valued = refl; whole = refl; of_its_variant = refl; fits = tt }),
  (add_incoming_streams_request 18 value, record { typed = refl; valued = refl; whole = refl; of_its_variant = refl; fits = tt }),
  (supported_extensions value, record { typed = refl; valued = refl; whole = refl; of_its_variant = tt; fits = tt }),
)

unknown_says : (typ : ℕ) (value : List ℕ) → is_known_parameter typ ≡ false → SaysSome value typ
unfolding parameter_value
unknown_says typ value other = (unknown_parameter typ value, record { typed = refl; valued = refl; whole = refl; of_its_variant = other; fits = tt })

-- what is shaped so says some parameter
abbrev SaysWhereShaped : List ℕ → ℕ → Type 0
SaysWhereShaped value typ = HasShape (parameter_shape typ) value → (HasNoResult typ value → ⊥) → SaysSome value typ

pub shaped_says : (typ : ℕ) (value : List ℕ) → IsBytes value → SaysWhereShaped value typ
shaped_says typ value fits =
    let bytes = bytes_say value in
    by_type typ 1 (SaysWhereShaped value) (λ shape speaks. bytes.0)
    (λ p1. by_type typ 7 (SaysWhereShaped value) (λ shape speaks. bytes.1)
    (λ p7. by_type typ 13 (SaysWhereShaped value) (λ shape speaks. outgoing_says value fits shape.0 shape.1)
    (λ p13. by_type typ 14 (SaysWhereShaped value) (λ shape speaks. incoming_says value fits shape.0 shape.1)
    (λ p14. by_type typ 15 (SaysWhereShaped value) (λ shape speaks. bytes.2)
    (λ p15. by_type typ 16 (SaysWhereShaped value)
    (λ shape speaks. elim shape [ inl short ↦ short_response_says value fits short speaks | inr long ↦ long_response_says value fits long speaks ])
    (λ p16. by_type typ 17 (SaysWhereShaped value) (λ shape speaks. bytes.3)
    (λ p17. by_type typ 18 (SaysWhereShaped value) (λ shape speaks. bytes.4)
    (λ p18. by_type typ 0x8001 (SaysWhereShaped value) (λ shape speaks. zero_checksum_says value fits shape)
    (λ method. by_type typ 0x8008 (SaysWhereShaped value) (λ shape speaks. bytes.5)
    (λ extensions. by_type typ 0xC000 (SaysWhereShaped value) (λ shape speaks. forward_tsn_says value shape)
    (λ forward shape speaks. unknown_says typ value (rw (p1, p7, p13, p14, p15, p16, p17, p18, method, extensions, forward) refl))))))))))))
