use Rattle.std.proofs.Common.{take}
use Rattle.std.specs.Prelude.{map}
use Rattle.sctp_tx_queue.specs.Restarted.{JoinsAll}
use Rattle.sctp_tx_queue.proofs.send_queue.changes.ChangedStreams.add_all.Given as goal

abbrev pub invariant-loop-id : goal.invariant-loop-id
invariant-loop-id l = JoinsAll (take l.id-index (map (λ id. id.0) l.ids)) l.initial.self l.self
