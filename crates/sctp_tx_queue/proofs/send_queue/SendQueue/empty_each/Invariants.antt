use Rattle.std.proofs.Common.{◌≡◌, drop}
use Rattle.std.specs.Prelude.{map}
use Rattle.sctp_tx_queue.specs.Emptied.{each_emptied}
use Rattle.sctp_tx_queue.proofs.send_queue.SendQueue.empty_each.Given as goal

abbrev pub invariant-loop-id : goal.invariant-loop-id
invariant-loop-id l = each_emptied (map (λ id. id.0) (drop l.id-index l.ids)) l.self ≡ each_emptied (map (λ id. id.0) l.ids) l.initial.self
