-- What is kept of an unordered stream.
use Rattle.std.specs.Prelude.{◌≤◌, ◌<◌, ◌^◌, [], length}
use Rattle.sctp_serial.specs.Unwrapped.{origin}
use Rattle.sctp_reassembly.specs.declared.unordered_stream.UnorderedState.{UnorderedState}
use Rattle.sctp_reassembly.specs.declared.unordered_stream.UnorderedState.TheVariants.{Idle, Holding}
use Rattle.sctp_reassembly.specs.Delivery.{UnorderedStream}

abbrev pub unordered_of : {K : Type 0} → UnorderedState K → UnorderedStream
unordered_of (Idle near passed) = record { near = near; passed = passed; held = [] }
unordered_of (Holding b) = b.value

-- there is memory for fragments only where some are held
abbrev pub IsUsed : {K : Type 0} → UnorderedState K → Type 0
IsUsed (Idle near passed) = Unit {0}
IsUsed (Holding b) = 0 < length b.value.held

-- what the numbers of a stream are
pub record AreNumbers (s : UnorderedStream) : Type 0 where
  pub least : origin ≤ s.near
  pub most : s.near < 2 ^ 63
  pub behind : s.passed < 2 ^ 63

pub record IsUnorderedState {K : Type 0} (state : UnorderedState K) : Type 0 where
  pub numbers : AreNumbers (unordered_of state)
  pub used : IsUsed state
