-- How often in turn the peer didn't answer (RFC 9260 section 8.1).
use Rattle.std.specs.Prelude.{ℕ, ◌+◌, nat_lt, min, Bool, false, Option}
use Rattle.std.specs.Option.{option_map_or}

pub record ErrorCounter : Type 0 where
  pub limit : Option ℕ
  pub value : ℕ

abbrev pub no_errors : Option ℕ → ErrorCounter
no_errors limit = record { limit = limit; value = 0 }

-- one above the limit is as high as it counts; without a limit nothing is counted
abbrev pub highest : ErrorCounter → ℕ
highest c = option_map_or (λ limit. limit + 1) c.limit 0

abbrev pub one_error : ErrorCounter → ErrorCounter
one_error c = record c { value = min (c.value + 1) (highest c) }

-- there were more errors than the limit
abbrev pub is_exhausted : ErrorCounter → Bool
is_exhausted c = option_map_or (λ limit. nat_lt limit c.value) c.limit false
