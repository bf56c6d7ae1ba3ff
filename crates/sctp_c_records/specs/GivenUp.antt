-- What C sees of a message that was given up.
use Rattle.std.specs.Prelude.{ℕ}
use Rattle.sctp_state.specs.Events.{GivenUp}
use Rattle.sctp_state.specs.declared.api.GivenUpCause.{GivenUpCause}
use Rattle.sctp_state.specs.declared.api.GivenUpCause.TheVariants.{Lifetime, Retransmissions, Reset, Ended}
use Rattle.sctp_c_records.specs.declared.given_up.GivenUpRecord.{GivenUpRecord}

abbrev pub cause_number : GivenUpCause → ℕ
cause_number Lifetime = 0
cause_number (Retransmissions count) = 1
cause_number Reset = 2
cause_number Ended = 3

-- how often a fragment was sent again, where that was the cause
abbrev pub times_of : GivenUpCause → ℕ
times_of Lifetime = 0
times_of (Retransmissions count) = count
times_of Reset = 0
times_of Ended = 0

abbrev pub given_up_record : GivenUp → GivenUpRecord
given_up_record g = record { number = g.number; cause = cause_number g.cause; retransmissions = times_of g.cause }
