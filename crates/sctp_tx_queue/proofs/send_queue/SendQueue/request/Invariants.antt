use Rattle.std.proofs.Common.{◌≡◌, drop}
use Rattle.std.specs.Prelude.{map}
use Rattle.sctp_tx_queue.specs.declared.send_queue.stream.ResetStep.TheVariants.{Requested}
use Rattle.sctp_tx_queue.specs.Resets.{each_stepped}
use Rattle.sctp_tx_queue.proofs.send_queue.SendQueue.request.Given as goal

abbrev pub invariant-loop-id : goal.invariant-loop-id
invariant-loop-id l = each_stepped Requested (map (λ id. id.0) (drop l.id-index l.ids)) l.self ≡ each_stepped Requested (map (λ id. id.0) l.ids) l.initial.self
