-- Moments and names in the record of a socket that is handed over. Spans are whole milliseconds from the handover on, in 32
-- bits.
use Rattle.std.specs.Prelude.{ℕ, ℤ, pos, negsuc, ◌+◌, ◌-◌, ◌*◌, ◌/◌, ◌^◌, ◌==◌, nat_le, min, if◌then◌else◌, Option, Some, None}
use Rattle.sctp_serial.specs.Time.{later}
use Rattle.sctp_state.specs.Numbers.{ms}

-- from now to a moment, rounded down
abbrev pub ms_from : ℕ → ℕ → ℤ
ms_from now moment = if nat_le now moment then pos (min ((moment - now) / ms) (2 ^ 31 - 1)) else negsuc (min ((now - moment - 1) / ms) (2 ^ 31 - 1))

abbrev pub moment_from : ℕ → ℤ → ℕ
moment_from now (pos n) = later now (n * ms)
moment_from now (negsuc n) = now - (n + 1) * ms

-- since a moment, rounded down
abbrev pub ms_since : ℕ → ℕ → ℤ
ms_since now moment = pos (min ((now - moment) / ms) (2 ^ 31 - 1))

abbrev pub moment_before : ℕ → ℤ → ℕ
moment_before now (pos n) = now - n * ms
moment_before now (negsuc n) = later now ((n + 1) * ms)

-- 0 names no message
abbrev pub lifecycle_from : ℕ → Option ℕ
lifecycle_from n = if n == 0 then None else Some n

-- what was written, and is read at the same moment
abbrev pub moment_again : ℕ → ℕ → ℕ
moment_again now moment = moment_from now (ms_from now moment)

abbrev pub lifecycle_again : Option ℕ → Option ℕ
lifecycle_again None = None
lifecycle_again (Some id) = lifecycle_from id
