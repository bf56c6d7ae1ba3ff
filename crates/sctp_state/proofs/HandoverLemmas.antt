-- What is written into a record of a handover, and read at the same moment.
use Rattle.std.proofs.Common.{◌≡◌, ℕ, Option, Some, None, refl}
use Rattle.std.specs.Prelude.{unwrap_or, option_map}
use Rattle.sctp_state.specs.HandoverTimes.{ms_from, moment_from, lifecycle_from, moment_again, lifecycle_again}

pub expires_is : (now : ℕ) (o : Option ℕ) → option_map (moment_from now) (option_map (ms_from now) o) ≡ option_map (moment_again now) o
expires_is now None = refl
expires_is now (Some t) = refl

pub lifecycle_is : (o : Option ℕ) → lifecycle_from (unwrap_or o 0) ≡ lifecycle_again o
lifecycle_is None = refl
lifecycle_is (Some id) = refl
