-- Numbers that a word spells.
use Rattle.std.proofs.Common.{◌≡◌, ℕ, ◌<◌, ◌^◌, ◌&&◌, Bool, true, Option, List, [], ◌∷◌, length, Result, Ok, Err, IfNone, refl, sym, ap, ◌∙◌}
use Rattle.std.specs.Char.{is_ascii_digit}
use Rattle.std.specs.List.{list_all}
use Rattle.std.specs.Str.{all_ascii_digits, IsUtf8}
use Rattle.std.specs.Result.{result_ok}
use Rattle.std.specs.Str.Parse.{ParsesUnsigned, digits_value}
use Rattle.std.proofs.lemmas.Fmt.{IsAscii-from_digits}
use Rattle.std.proofs.lemmas.Result.{OkIff-at_err}
use Rattle.std.proofs.lemmas.Str.{IsUtf8-from_ascii}
use Rattle.std.proofs.lemmas.Str.Parse.{IsNumeralModel, numerals_by_value, tells_all_ascii_digits, parse_digits}
use Rattle.sctp_world.specs.Command.{IsNumber}

same_digits : (ds : List ℕ) → list_all is_ascii_digit ds ≡ all_ascii_digits ds
same_digits [] = refl
same_digits (d ∷ ds) = ap (λ (b : Bool). is_ascii_digit d && b) (same_digits ds)

model : IsNumeralModel (λ ds. all_ascii_digits ds ≡ true) (digits_value 10)
model = numerals_by_value (λ ds. all_ascii_digits ds ≡ true) tells_all_ascii_digits

module _ (word : List ℕ) (digits : list_all is_ascii_digit word ≡ true) where
  plain : all_ascii_digits word ≡ true
  plain = sym (same_digits word) ∙ digits

  pub is_utf8 : IsUtf8 word
  is_utf8 = IsUtf8-from_ascii word (IsAscii-from_digits word (model.to word plain))

  pub is_no_number : {E : Type 0} (r : Result ℕ E) (fault : E) (n : ℕ) → ParsesUnsigned 64 10 word r → r ≡ Err fault → n < 2 ^ 64 → IsNumber word n → ⊥
  is_no_number r fault n parsed e fits number =
      OkIff-at_err r ((0 < length word) × (digits_value 10 word < 2 ^ 64)) (digits_value 10 word) fault (parse_digits model 64 word r parsed plain) e
      (number.some, rw number.value fits)

  pub none_if_err : {E : Type 0} (r : Result ℕ E) (o : Option ℕ) → o ≡ result_ok r → ParsesUnsigned 64 10 word r
      → IfNone o ((n : ℕ) → n < 2 ^ 64 → IsNumber word n → ⊥)
  none_if_err (Ok x) o e parsed = rw e tt
  none_if_err (Err fault) o e parsed = rw e (λ n. is_no_number (Err fault) fault n parsed refl)
