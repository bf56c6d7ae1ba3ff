use Rattle.std.proofs.Common.{ap, sym, subst, ◌++◌, ◌∙◌, ℕ, List}
use Rattle.std.specs.Map.{values_of}
use Rattle.sctp_state.specs.Events.{Grown}
use Rattle.sctp_state.proofs.EventLemmas.{grown_through}
use Rattle.sctp_tx_queue.specs.SendQueue.{Entries}
use Rattle.sctp_tx_queue.specs.Emptied.{emit_all_ended, streams_to_empty}
use Rattle.sctp_tx_queue.proofs.EmptiedLemmas.{grown_ended}
use Rattle.sctp_tx_queue.proofs.OthersOutLemmas.{listed_more, names}
use Rattle.sctp_tx_queue.proofs.send_queue.streams.emit_each_ended.Goals as goal

pub loop-id-preserved : goal.loop-id-preserved
loop-id-preserved c =
    let before = c.loop-id.events in
    let sch = c.args.scheduler.now in
    let ended = c.in_ok-emit_and_list.ensures.emitted in
    let grown = subst (λ t. Grown before t) (sym ended) (grown_ended c.in-Some.stream.now.messages before) in
    record {
      listed =
          ap (λ (xs : List ℕ). xs ++ streams_to_empty sch c.next.new.self) c.in_ok-emit_and_list.ensures.listed
          ∙ listed_more c.in-Some.id.now c.in-Some.stream.now sch (names c.loop-id.ids.items) c.next.new.self
          ∙ sym (ap (λ (es : Entries). names c.loop-id.ids.items ++ streams_to_empty sch es) c.in-Some.ensures.steps)
          ∙ c.loop-id.invariant.listed;
      emitted =
          ap (λ t. emit_all_ended (values_of c.next.new.self) t) ended
          ∙ sym (ap (λ (es : Entries). emit_all_ended (values_of es) before) c.in-Some.ensures.steps)
          ∙ c.loop-id.invariant.emitted;
      grown = grown_through c.args.events.now before c.emit_and_list.new.events c.loop-id.invariant.grown grown;
    }
