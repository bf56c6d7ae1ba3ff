use Rattle.std.proofs.Common.{◌≡◌, true, drop, take}
use Rattle.std.specs.Prelude.{map}
use Rattle.sctp_tx_queue.specs.Restarted.{each_restarted, AreSettled}
use Rattle.sctp_tx_queue.proofs.send_queue.SendQueue.restart_all.Given as goal

abbrev pub invariant-loop-id : goal.invariant-loop-id
invariant-loop-id l = record {
  rest : each_restarted (map (λ id. id.0) (drop l.id-index l.ids)) l.self ≡ each_restarted (map (λ id. id.0) l.ids) l.initial.self;
  done : l.self ≡ each_restarted (take l.id-index (map (λ id. id.0) l.ids)) l.initial.self;
  settled : l.are_settled ≡ true → AreSettled (take l.id-index (map (λ id. id.0) l.ids)) l.self;
}
