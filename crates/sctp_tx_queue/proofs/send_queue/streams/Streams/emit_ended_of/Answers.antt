use Rattle.std.proofs.Common.{ℕ, ◌+◌, List, ap, sym, subst, drop, get_or, ◌++◌, ◌∙◌}
use Rattle.std.specs.Prelude.{filter}
use Rattle.sctp_serial.specs.declared.api.StreamId.{StreamId}
use Rattle.sctp_state.specs.Events.{Grown}
use Rattle.sctp_state.proofs.EventLemmas.{grown_through}
use Rattle.sctp_tx_queue.specs.SendQueue.{stream}
use Rattle.sctp_tx_queue.specs.Emptied.{is_to_empty}
use Rattle.sctp_tx_queue.proofs.EmptiedLemmas.{grown_ended}
use Rattle.sctp_tx_queue.proofs.OthersOutLemmas.{names}
use Rattle.sctp_tx_queue.proofs.SomeOutLemmas.{next_listed, next_emitted}
use Rattle.sctp_tx_queue.proofs.send_queue.streams.Streams.emit_ended_of.Goals as goal

pub loop-id-preserved : goal.loop-id-preserved
loop-id-preserved c =
    let ss = c.args.self.now in
    let sch = c.args.scheduler.now in
    let ids = c.args.ids.now in
    let i = c.loop-id.id-index in
    let none : StreamId = record { 0 = 0 } in
    let before = c.loop-id.events in
    let ended = c.in_ok-emit_ended_one.ensures.emitted in
    let grown = subst (λ t. Grown before t) (sym ended) (grown_ended (stream (get_or ids i none).0 ss).messages before) in
    record {
      listed =
          ap (λ (xs : List ℕ). xs ++ filter (λ k. is_to_empty k (stream k ss) sch) (names (drop (i + 1) ids))) c.in_ok-emit_ended_one.ensures.listed
          ∙ next_listed (λ k. is_to_empty k (stream k ss) sch) ids i none (names c.loop-id.found.items) c.loop-id-test.true
          ∙ c.loop-id.invariant.listed;
      emitted = next_emitted ss ids i none before c.emit_ended_one.new.events c.loop-id-test.true ended ∙ c.loop-id.invariant.emitted;
      grown = grown_through c.args.events.now before c.emit_ended_one.new.events c.loop-id.invariant.grown grown;
    }
