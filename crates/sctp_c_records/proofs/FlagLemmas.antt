-- A sum of flags has each flag that was added, and no other.
use Rattle.std.proofs.Common.{◌≡◌, ◌+◌, ℕ, Bool, true, false, refl}
use Rattle.sctp_c_records.specs.OptionsStruct.{flag_value}
use Rattle.sctp_c_records.specs.Records.{has_flag}

abbrev pub sum_of : (a b c d e f : Bool) → ℕ
sum_of a b c d e f = flag_value a 1 + flag_value b 2 + flag_value c 4 + flag_value d 8 + flag_value e 16 + flag_value f 32

pub record HasFlags (n : ℕ) (a b c d e f : Bool) : Type 0 where
  pub first : has_flag n 1 ≡ a
  pub second : has_flag n 2 ≡ b
  pub third : has_flag n 4 ≡ c
  pub fourth : has_flag n 8 ≡ d
  pub fifth : has_flag n 16 ≡ e
  pub sixth : has_flag n 32 ≡ f

pub has_flags : (a b c d e f : Bool) → HasFlags (sum_of a b c d e f) a b c d e f
has_flags true true true true true true = record { first = refl; second = refl; third = refl; fourth = refl; fifth = refl; sixth = refl }
has_flags true true true true true false = record { first = refl; second = refl; third = refl; fourth = refl; fifth = refl; sixth = refl }
has_flags true true true true false true = record { first = refl; second = refl; third = refl; fourth = refl; fifth = refl; sixth = refl }
has_flags true true true true false false = record { first = refl; second = refl; third = refl; fourth = refl; fifth = refl; sixth = refl }
has_flags true true true false true true = record { first = refl; second = refl; third = refl; fourth = refl; fifth = refl; sixth = refl }
has_flags true true true false true false = record { first = refl; second = refl; third = refl; fourth = refl; fifth = refl; sixth = refl }
has_flags true true true false false true = record { first = refl; second = refl; third = refl; fourth = refl; fifth = refl; sixth = refl }
has_flags true true true false false false = record { first = refl; second = refl; third = refl; fourth = refl; fifth = refl; sixth = refl }
has_flags true true false true true true = record { first = refl; second = refl; third = refl; fourth = refl; fifth = refl; sixth = refl }
has_flags true true false true true false = record { first = refl; second = refl; third = refl; fourth = refl; fifth = refl; sixth = refl }
has_flags true true false true false true = record { first = refl; second = refl; third = refl; fourth = refl; fifth = refl; sixth = refl }
has_flags true true false true false false = record { first = refl; second = refl; third = refl; fourth = refl; fifth = refl; sixth = refl }
has_flags true true false false true true = record { first = refl; second = refl; third = refl; fourth = refl; fifth = refl; sixth = refl }
has_flags true true false false true false = record { first = refl; second = refl; third = refl; fourth = refl; fifth = refl; sixth = refl }
has_flags true true false false false true = record { first = refl; second = refl; third = refl; fourth = refl; fifth = refl; sixth = refl }
has_flags true true false false false false = record { first = refl; second = refl; third = refl; fourth = refl; fifth = refl; sixth = refl }
has_flags true false true true true true = record { first = refl; second = refl; third = refl; fourth = refl; fifth = refl; sixth = refl }
has_flags true false true true true false = record { first = refl; second = refl; third = refl; fourth = refl; fifth = refl; sixth = refl }
has_flags true false true true false true = record { first = refl; second = refl; third = refl; fourth = refl; fifth = refl; sixth = refl }
has_flags true false true true false false = record { first = refl; second = refl; third = refl; fourth = refl; fifth = refl; sixth = refl }
has_flags true false true false true true = record { first = refl; second = refl; third = refl; fourth = refl; fifth = refl; sixth = refl }
has_flags true false true false true false = record { first = refl; second = refl; third = refl; fourth = refl; fifth = refl; sixth = refl }
has_flags true false true false false true = record { first = refl; second = refl; third = refl; fourth = refl; fifth = refl; sixth = refl }
has_flags true false true false false false = record { first = refl; second = refl; third = refl; fourth = refl; fifth = refl; sixth = refl }
has_flags true false false true true true = record { first = refl; second = refl; third = refl; fourth = refl; fifth = refl; sixth = refl }
has_flags true false false true true false = record { first = refl; second = refl; third = refl; fourth = refl; fifth = refl; sixth = refl }
has_flags true false false true false true = record { first = refl; second = refl; third = refl; fourth = refl; fifth = refl; sixth = refl }
has_flags true false false true false false = record { first = refl; second = refl; third = refl; fourth = refl; fifth = refl; sixth = refl }
has_flags true false false false true true = record { first = refl; second = refl; third = refl; fourth = refl; fifth = refl; sixth = refl }
has_flags true false false false true false = record { first = refl; second = refl; third = refl; fourth = refl; fifth = refl; sixth = refl }
has_flags true false false false false true = record { first = refl; second = refl; third = refl; fourth = refl; fifth = refl; sixth = refl }
has_flags true false false false false false = record { first = refl; second = refl; third = refl; fourth = refl; fifth = refl; sixth = refl }
has_flags false true true true true true = record { first = refl; second = refl; third = refl; fourth = refl; fifth = refl; sixth = refl }
has_flags false true true true true false = record { first = refl; second = refl; third = refl; fourth = refl; fifth = refl; sixth = refl }
has_flags false true true true false true = record { first = refl; second = refl; third = refl; fourth = refl; fifth = refl; sixth = refl }
has_flags false true true true false false = record { first = refl; second = refl; third = refl; fourth = refl; fifth = refl; sixth = refl }
has_flags false true true false true true = record { first = refl; second = refl; third = refl; fourth = refl; fifth = refl; sixth = refl }
has_flags false true true false true false = record { first = refl; second = refl; third = refl; fourth = refl; fifth = refl; sixth = refl }
has_flags false true true false false true = record { first = refl; second = refl; third = refl; fourth = refl; fifth = refl; sixth = refl }
has_flags false true true false false false = record { first = refl; second = refl; third = refl; fourth = refl; fifth = refl; sixth = refl }
has_flags false true false true true true = record { first = refl; second = refl; third = refl; fourth = refl; fifth = refl; sixth = refl }
has_flags false true false true true false = record { first = refl; second = refl; third = refl; fourth = refl; fifth = refl; sixth = refl }
has_flags false true false true false true = record { first = refl; second = refl; third = refl; fourth = refl; fifth = refl; sixth = refl }
has_flags false true false true false false = record { first = refl; second = refl; third = refl; fourth = refl; fifth = refl; sixth = refl }
has_flags false true false false true true = record { first = refl; second = refl; third = refl; fourth = refl; fifth = refl; sixth = refl }
has_flags false true false false true false = record { first = refl; second = refl; third = refl; fourth = refl; fifth = refl; sixth = refl }
has_flags false true false false false true = record { first = refl; second = refl; third = refl; fourth = refl; fifth = refl; sixth = refl }
has_flags false true false false false false = record { first = refl; second = refl; third = refl; fourth = refl; fifth = refl; sixth = refl }
has_flags false false true true true true = record { first = refl; second = refl; third = refl; fourth = refl; fifth = refl; sixth = refl }
has_flags false false true true true false = record { first = refl; second = refl; third = refl; fourth = refl; fifth = refl; sixth = refl }
has_flags false false true true false true = record { first = refl; second = refl; third = refl; fourth = refl; fifth = refl; sixth = refl }
has_flags false false true true false false = record { first = refl; second = refl; third = refl; fourth = refl; fifth = refl; sixth = refl }
has_flags false false true false true true = record { first = refl; second = refl; third = refl; fourth = refl; fifth = refl; sixth = refl }
has_flags false false true false true false = record { first = refl; second = refl; third = refl; fourth = refl; fifth = refl; sixth = refl }
has_flags false false true false false true = record { first = refl; second = refl; third = refl; fourth = refl; fifth = refl; sixth = refl }
has_flags false false true false false false = record { first = refl; second = refl; third = refl; fourth = refl; fifth = refl; sixth = refl }
has_flags false false false true true true = record { first = refl; second = refl; third = refl; fourth = refl; fifth = refl; sixth = refl }
has_flags false false false true true false = record { first = refl; second = refl; third = refl; fourth = refl; fifth = refl; sixth = refl }
has_flags false false false true false true = record { first = refl; second = refl; third = refl; fourth = refl; fifth = refl; sixth = refl }
has_flags false false false true false false = record { first = refl; second = refl; third = refl; fourth = refl; fifth = refl; sixth = refl }
has_flags false false false false true true = record { first = refl; second = refl; third = refl; fourth = refl; fifth = refl; sixth = refl }
has_flags false false false false true false = record { first = refl; second = refl; third = refl; fourth = refl; fifth = refl; sixth = refl }
has_flags false false false false false true = record { first = refl; second = refl; third = refl; fourth = refl; fifth = refl; sixth = refl }
has_flags false false false false false false = record { first = refl; second = refl; third = refl; fourth = refl; fifth = refl; sixth = refl }
