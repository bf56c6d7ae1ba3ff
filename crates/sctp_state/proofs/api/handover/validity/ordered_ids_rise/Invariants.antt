use Rattle.std.proofs.Common.{◌≡◌, drop}
use Rattle.sctp_state.specs.Validity.{rises_from, ordered_ids}
use Rattle.sctp_state.proofs.api.handover.validity.ordered_ids_rise.Given as goal

abbrev pub invariant-streams : goal.invariant-streams
invariant-streams l = rises_from l.least (ordered_ids (drop l.stream-index l.streams)) ≡ rises_from 0 (ordered_ids l.streams)
