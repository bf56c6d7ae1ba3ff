-- Lengths of causes' values.
use Rattle.std.proofs.Common.{◌≡◌, ◌≢◌, ℕ, ◌+◌, ◌*◌, ◌^◌, ◌<◌, List, ◌++◌, length, ap, sym, ◌∙◌, arith}
use Rattle.std.specs.List.{flat_map}
use Rattle.std.proofs.lemmas.List.{length-append}
use Rattle.sctp_serial.specs.declared.types.tsn.Tsn.{Tsn}
use Rattle.sctp_wire.specs.Field.{be16, be32, length_be16, length_be32}
use Rattle.sctp_wire.specs.Cause.{cause_value, missing_mandatory_parameter, no_user_data}
use Rattle.sctp_wire.proofs.SerializeLemmas.{length_entries}
use Rattle.sctp_wire.proofs.FieldLemmas.{be32_same}
use Rattle.sctp_wire.specs.Shape.{HasShape, counted}

pub length_missing : (types : List ℕ) → length (cause_value (missing_mandatory_parameter types)) ≡ 4 + length types * 2
unfolding cause_value be32
length_missing types = omega (arith, length_entries be16 2 length_be16 types)

pub length_no_user_data : (tsn : Tsn) → length (cause_value (no_user_data tsn)) ≡ 4
unfolding cause_value be32
length_no_user_data tsn = omega arith

pub too_short : (value : List ℕ) → length value < 4 → HasShape (counted 2) value → ⊥
too_short value short h = omega (arith, ap length h.3, length-append (be32 h.0) h.1, length_be32 h.0)

pub not_counted : (value rest : List ℕ) (count : ℕ) → count < 2 ^ 32 → value ≡ be32 count ++ rest → length rest ≢ 2 * count → HasShape (counted 2) value → ⊥
not_counted value rest count fits e other h =
    let same = be32_same count h.0 rest h.1 fits h.2 (sym e ∙ h.3) in
    other (ap length same.1 ∙ h.4 ∙ sym (ap (λ (n : ℕ). 2 * n) same.0))

-- as many types as are counted
pub all_counted : (value rest types : List ℕ) (count : ℕ) → value ≡ be32 count ++ rest → length rest ≡ 2 * count → rest ≡ flat_map be16 types
    → value ≡ cause_value (missing_mandatory_parameter types)
unfolding cause_value
all_counted value rest types count e len f =
    let same : count ≡ length types = omega (arith, ap length f, length_entries be16 2 length_be16 types) in
    e ∙ ap (λ (n : ℕ). be32 n ++ rest) same ∙ ap (λ (x : List ℕ). be32 (length types) ++ x) f

pub count_fits : (rest types : List ℕ) (count : ℕ) → count < 2 ^ 32 → length rest ≡ 2 * count → rest ≡ flat_map be16 types → length types < 2 ^ 32
count_fits rest types count fits len f = omega (arith, ap length f, length_entries be16 2 length_be16 types)

pub few_types : (types : List ℕ) → 4 + length (cause_value (missing_mandatory_parameter types)) < 2 ^ 16 → length types < 2 ^ 32
few_types types fits = omega (arith, length_missing types)
