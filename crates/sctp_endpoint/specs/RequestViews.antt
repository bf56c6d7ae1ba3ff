-- What the program's answers to requests say.
use Rattle.sctp_endpoint.specs.declared.reset_requests.ResetOutcome.{ResetOutcome}
use Rattle.sctp_endpoint.specs.declared.reset_requests.ResetOutcome.TheVariants as outcomes
use Rattle.sctp_state.specs.Events.{numbers_of}
use Rattle.spec_endpoint.specs.ResetRequests.{Outcome, Unsettled, Done, Denied}

abbrev pub outcome_of : ResetOutcome → Outcome
outcome_of outcomes.Unsettled = Unsettled
outcome_of (outcomes.Done streams) = Done (numbers_of streams.items)
outcome_of (outcomes.Denied streams) = Denied (numbers_of streams.items)
