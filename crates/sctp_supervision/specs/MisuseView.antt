-- What is emitted of chunks that what was negotiated forbids.
use Rattle.std.specs.Prelude.{ℕ, List, Bool, true, false, not, Option}
use Rattle.spec_endpoint.specs.Input.{unless, interleaving_text, no_interleaving_text, no_partial_text}
use Rattle.sctp_supervision.specs.declared.misuse.Misuse.{Misuse}
use Rattle.sctp_supervision.specs.declared.misuse.Misuse.TheVariants as misuses

abbrev pub misuse_text : Misuse → List ℕ
misuse_text misuses.NotInterleaved = interleaving_text
misuse_text misuses.Interleaved = no_interleaving_text
misuse_text misuses.Forward = no_partial_text

-- Why a fragment is not taken: it comes in I-DATA, or in DATA, and that isn't what was negotiated.
abbrev pub data_misused : (is_negotiated is_interleaved : Bool) → Option (List ℕ)
data_misused is_negotiated true = unless is_negotiated no_interleaving_text
data_misused is_negotiated false = unless (not is_negotiated) interleaving_text
