use Rattle.sctp_fragments.specs.Held.{rank_of, goes_on, begins, ends}
use Rattle.sctp_reassembly.proofs.ListLemmas.{first_stops, last_stops}
use Rattle.sctp_fragments.proofs.RunLemmas.{runs_of_around}
use Rattle.proof_refines.proofs.ready_messages.messages_are_intervals.Goals as goal

pub returns : goal.returns
returns c front run back h = runs_of_around rank_of goes_on begins ends first_stops last_stops front run back h
