use Rattle.std.proofs.Common.{◌≡◌, ◌∷◌, ◌∙◌, rules, arith}
use Rattle.std.specs.VecDeque.Iter.{deque_iter_rest}
use Rattle.sctp_tx_outstanding.specs.Sack.{leaving_events}
use Rattle.sctp_tx_outstanding.proofs.EmittingLemmas.{emit_event_step, grown_step}
use Rattle.sctp_tx_outstanding.proofs.kept.emit_first.Goals as goal

pub loop-item-preserved : goal.loop-item-preserved
loop-item-preserved c =
    let is : deque_iter_rest c.loop-item.item-iterator ≡ c.in-Some.item.now ∷ deque_iter_rest c.next.new.self = search rules in
    let emitted = c.in_ok-emit_left.ensures.ok in
    record {
      emitted =
          emit_event_step c.loop-item.left (deque_iter_rest c.loop-item.item-iterator) (deque_iter_rest c.next.new.self) c.in-Some.item.now c.loop-item.events c.emit_left.new.events
          (omega arith) is (search rules) ∙ c.loop-item.invariant.emitted;
      grown = grown_step (leaving_events c.in-Some.item.now) c.args.events.now c.loop-item.events c.emit_left.new.events c.loop-item.invariant.grown (search rules);
    }
