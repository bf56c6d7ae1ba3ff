-- What is kept of an ordered stream.
use Rattle.std.specs.Prelude.{◌≤◌, ◌<◌, ◌+◌, [], length}
use Rattle.sctp_serial.specs.Unwrapped.{origin}
use Rattle.sctp_reassembly.specs.declared.ordered_stream.OrderedState.{OrderedState}
use Rattle.sctp_reassembly.specs.declared.ordered_stream.OrderedState.TheVariants.{Idle, Holding}
use Rattle.sctp_reassembly.specs.Delivery.{OrderedStream}

abbrev pub ordered_of : {K : Type 0} → OrderedState K → OrderedStream
ordered_of (Idle last) = record { next = last + 1; held = [] }
ordered_of (Holding b) = b.value

-- there is memory for fragments only where some are held
abbrev pub IsUsed : {K : Type 0} → OrderedState K → Type 0
IsUsed (Idle last) = Unit {0}
IsUsed (Holding b) = 0 < length b.value.held

pub record IsOrderedState {K : Type 0} (state : OrderedState K) : Type 0 where
  pub least : origin ≤ (ordered_of state).next
  pub used : IsUsed state
