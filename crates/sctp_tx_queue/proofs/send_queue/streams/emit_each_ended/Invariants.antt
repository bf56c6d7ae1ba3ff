use Rattle.std.proofs.Common.{◌≡◌, ◌++◌}
use Rattle.std.specs.Prelude.{map}
use Rattle.std.specs.Map.{values_of}
use Rattle.sctp_state.specs.Events.{Grown}
use Rattle.sctp_tx_queue.specs.Emptied.{emit_all_ended, streams_to_empty}
use Rattle.sctp_tx_queue.proofs.send_queue.streams.emit_each_ended.Given as goal

abbrev pub invariant-loop-id : goal.invariant-loop-id
invariant-loop-id l = record {
  listed : map (λ id. id.0) l.ids.items ++ streams_to_empty l.scheduler l.id-iterator ≡ streams_to_empty l.scheduler l.streams.entries;
  emitted : emit_all_ended (values_of l.id-iterator) l.events ≡ emit_all_ended (values_of l.streams.entries) l.initial.events;
  grown : Grown l.initial.events l.events;
}
