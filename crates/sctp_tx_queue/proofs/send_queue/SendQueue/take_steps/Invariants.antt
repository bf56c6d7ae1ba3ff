use Rattle.std.proofs.Common.{◌≡◌, drop, take}
use Rattle.std.specs.Prelude.{map}
use Rattle.sctp_tx_queue.specs.Resets.{each_stepped}
use Rattle.sctp_tx_queue.proofs.send_queue.SendQueue.take_steps.Given as goal

abbrev pub invariant-loop-id : goal.invariant-loop-id
invariant-loop-id l = record {
  rest : each_stepped l.step (map (λ id. id.0) (drop l.id-index l.ids)) l.self ≡ each_stepped l.step (map (λ id. id.0) l.ids) l.initial.self;
  done : l.self ≡ each_stepped l.step (take l.id-index (map (λ id. id.0) l.ids)) l.initial.self;
}
