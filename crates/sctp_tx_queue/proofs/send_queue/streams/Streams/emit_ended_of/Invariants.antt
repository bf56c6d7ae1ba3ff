use Rattle.std.proofs.Common.{◌≡◌, ◌++◌, drop}
use Rattle.std.specs.Prelude.{map, filter}
use Rattle.sctp_state.specs.Events.{Grown}
use Rattle.sctp_tx_queue.specs.SendQueue.{stream}
use Rattle.sctp_tx_queue.specs.Emptied.{emit_all_ended, is_to_empty}
use Rattle.sctp_tx_queue.proofs.send_queue.streams.Streams.emit_ended_of.Given as goal

abbrev pub invariant-loop-id : goal.invariant-loop-id
invariant-loop-id l = record {
  listed : map (λ id. id.0) l.found.items ++ filter (λ k. is_to_empty k (stream k l.self) l.scheduler) (map (λ id. id.0) (drop l.id-index l.ids)) ≡ filter (λ k. is_to_empty k (stream k l.self) l.scheduler) (map (λ id. id.0) l.ids);
  emitted : emit_all_ended (map (λ k. stream k l.self) (map (λ id. id.0) (drop l.id-index l.ids))) l.events ≡ emit_all_ended (map (λ k. stream k l.self) (map (λ id. id.0) l.ids)) l.initial.events;
  grown : Grown l.initial.events l.events;
}
