use Rattle.std.proofs.Common.{◌≡◌, drop}
use Rattle.sctp_state.specs.Validity.{rises_from, unordered_ids}
use Rattle.sctp_state.proofs.api.handover.validity.unordered_ids_rise.Given as goal

abbrev pub invariant-streams : goal.invariant-streams
invariant-streams l = rises_from l.least (unordered_ids (drop l.stream-index l.streams)) ≡ rises_from 0 (unordered_ids l.streams)
