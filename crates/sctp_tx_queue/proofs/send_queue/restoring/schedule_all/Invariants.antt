use Rattle.std.proofs.Common.{◌≡◌, drop}
use Rattle.sctp_state.specs.Validity.{outgoing_ids}
use Rattle.sctp_tx_queue.specs.Restored.{each_scheduled}
use Rattle.sctp_tx_queue.proofs.send_queue.restoring.schedule_all.Given as goal

abbrev pub invariant-loop-stream : goal.invariant-loop-stream
invariant-loop-stream l = each_scheduled (outgoing_ids (drop l.stream-index l.records)) l.streams l.scheduler ≡ each_scheduled (outgoing_ids l.records) l.streams l.initial.scheduler
