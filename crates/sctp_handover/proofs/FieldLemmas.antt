-- What is found at the front of bytes.
use Rattle.std.proofs.Common.{◌≡◌, ◌<◌, ◌^◌, min, ℕ, ℤ, pos, Bool, Option, Some, None, IfSome, is_some, unwrap_or, Result, Ok, Err, OnOk, IfOk, List, ◌++◌, length, take, drop, refl, sym, ap, ◌∙◌, arith, rules, append_assoc, length-append, FitsSigned}
use Rattle.std.specs.Int.{w32, w64, from_be_bytes, cast_signed, cast_unsigned}
use Rattle.std.proofs.lemmas.Nat.{from_be_bytes-to_be_bytes_8}
use Rattle.std.proofs.lemmas.Int.{to_z-of_z}
use Rattle.std.proofs.lemmas.List.{drop_at, take_at}
use mir.ValLaws as laws
use Rattle.sctp_wire.specs.Field.{be16, be32, be64, length_be16, length_be32, length_be64}
use Rattle.sctp_wire.proofs.ParsesAllLemmas.{cut_same}
use Rattle.sctp_handover.specs.Bounds.{Is16, Is32, Is64}
use Rattle.sctp_handover.specs.Bytes.{is_connected, payload_bytes, signed_bytes}
use Rattle.sctp_handover.specs.Reads.{Finds, some_if, state_if}
use Rattle.sctp_state.specs.declared.api.handover.HandoverSocketState.{HandoverSocketState}
use Rattle.sctp_state.specs.declared.api.handover.HandoverSocketState.TheVariants.{Closed, Connected}
use Rattle.sctp_wire.proofs.FieldLemmas.{same16, same32}

same64 : (m n : ℕ) → m < 2 ^ 64 → n < 2 ^ 64 → be64 m ≡ be64 n → m ≡ n
unfolding be64
same64 m n hm hn e = sym (from_be_bytes-to_be_bytes_8 m hm) ∙ ap (from_be_bytes w64) e ∙ from_be_bytes-to_be_bytes_8 n hn

-- a field of one width, whose numbers are told apart by their bytes
module _ (spelled : ℕ → List ℕ) (bound width : ℕ) (wide : (n : ℕ) → length (spelled n) ≡ width)
    (same : (m n : ℕ) → m < bound → n < bound → spelled m ≡ spelled n → m ≡ n) where
  pub found : (bytes rest : List ℕ) (n : ℕ) → bytes ≡ spelled n ++ rest → n < bound → Finds spelled (λ m. m < bound) bytes n rest
  found bytes rest n e small = λ m after fits other.
      let parts = cut_same (spelled n) rest (spelled m) after (wide n ∙ sym (wide m)) (sym e ∙ other) in
      (same n m small fits parts.0, parts.1)

  pub none : (bytes rest : List ℕ) (n : ℕ) → length bytes < width → Finds spelled (λ m. m < bound) bytes n rest
  none bytes rest n short = λ m after fits other.
      absurd (omega (arith, short, ap (λ (bs : List ℕ). length bs) other, length-append (spelled m) after, wide m))

pub found16 : (bytes rest : List ℕ) (n : ℕ) → bytes ≡ be16 n ++ rest → n < 2 ^ 16 → Finds be16 Is16 bytes n rest
found16 = found be16 (2 ^ 16) 2 length_be16 same16

pub found32 : (bytes rest : List ℕ) (n : ℕ) → bytes ≡ be32 n ++ rest → n < 2 ^ 32 → Finds be32 Is32 bytes n rest
found32 = found be32 (2 ^ 32) 4 length_be32 same32

pub found64 : (bytes rest : List ℕ) (n : ℕ) → bytes ≡ be64 n ++ rest → n < 2 ^ 64 → Finds be64 Is64 bytes n rest
found64 = found be64 (2 ^ 64) 8 length_be64 same64

pub none16 : (bytes rest : List ℕ) (n : ℕ) → length bytes < 2 → Finds be16 Is16 bytes n rest
none16 = none be16 (2 ^ 16) 2 length_be16 same16

pub none32 : (bytes rest : List ℕ) (n : ℕ) → length bytes < 4 → Finds be32 Is32 bytes n rest
none32 = none be32 (2 ^ 32) 4 length_be32 same32

pub none64 : (bytes rest : List ℕ) (n : ℕ) → length bytes < 8 → Finds be64 Is64 bytes n rest
none64 = none be64 (2 ^ 64) 8 length_be64 same64

-- what isn't there is written as something, and its flag says so
pub there : {X : Type 0} (b : Bool) (x d : X) (o : Option X) → b ≡ is_some o → x ≡ unwrap_or o d → some_if b x ≡ o
there b x d None eb ex = rw eb refl
there b x d (Some y) eb ex = rw (eb, ex) refl

pub or_zero : (bound : ℕ) (o : Option ℕ) → 0 < bound → IfSome o (λ n. n < bound) → unwrap_or o 0 < bound
or_zero bound None some fits = some
or_zero bound (Some n) some fits = fits

pub or_zero_signed : (o : Option ℤ) → IfSome o (FitsSigned w32) → FitsSigned w32 (unwrap_or o (pos 0))
or_zero_signed None fits = search rules
or_zero_signed (Some z) fits = fits

-- a signed number is kept by its bits
pub through : (r z : ℤ) → FitsSigned w32 z → r ≡ z → cast_signed w32 (cast_unsigned w32 r) ≡ z
through r z fits e = ap (λ (y : ℤ). cast_signed w32 (cast_unsigned w32 y)) e ∙ to_z-of_z w32 z fits

pub found_signed : (bytes rest : List ℕ) (n : ℕ) (r : ℤ) → Finds be32 Is32 bytes n rest → r ≡ cast_signed w32 n
    → Finds signed_bytes (FitsSigned w32) bytes (cast_signed w32 (cast_unsigned w32 r)) rest
unfolding signed_bytes
found_signed bytes rest n r finds er = λ y after fits e.
    let at = finds (cast_unsigned w32 y) after (laws.of_z_fits w32 y fits).fits e in
    (through r y fits (er ∙ ap (cast_signed w32) at.0 ∙ to_z-of_z w32 y fits), at.1)

-- as many bytes as the length says, at most those that are left
pub found_payload : (bytes rest payload after : List ℕ) (n k : ℕ) → Finds be64 Is64 bytes n rest → k ≡ min n (length rest)
    → payload ≡ take k rest → after ≡ drop k rest → Finds payload_bytes (λ p. Is64 (length p)) bytes payload after
unfolding payload_bytes
found_payload bytes rest payload after n k finds ek ep ea = λ p behind fits e.
    let at = finds (length p) (p ++ behind) fits (e ∙ append_assoc (be64 (length p)) p behind) in
    let many : k ≡ length p = omega (arith, ek, at.0, ap (λ (bs : List ℕ). length bs) at.1, length-append p behind) in (
      ep ∙ rw (many, at.1) (take_at p behind (length p) refl),
      ea ∙ rw (many, at.1) (drop_at p behind (length p) refl),
    )

pub state_back : (b : Bool) (s : HandoverSocketState) → b ≡ is_connected s → state_if b ≡ s
state_back b Closed e = rw e refl
state_back b Connected e = rw e refl

-- what holds of an answer that is handed on
pub passes_on : {T E P Q : Type 0} (r : Result T E) → OnOk r P → (P → Q) → OnOk r Q
passes_on (Ok x) p f = f p
passes_on (Err e) p f = tt

pub passes_if : {T E : Type 0} {P Q : T → Type 0} (r : Result T E) → IfOk r P → ((x : T) → P x → Q x) → IfOk r Q
passes_if (Ok x) p f = f x p
passes_if (Err e) p f = tt
