use Rattle.std.proofs.Common.{◌≡◌, Some, rules, refl, sym}
use Rattle.sctp_state.specs.Events.{first_of}
use Rattle.sctp_tx_outstanding.specs.Views.{discard_of}
use Rattle.sctp_tx.proofs.PartlyLemmas.{on_err, discarding_none, discarding_on, discarding_stops}
use Rattle.sctp_tx.proofs.retransmission_queue.discard_all.Goals as goal

pub loop-next-init : goal.loop-next-init
loop-next-init c = record {
  items = refl;
  rest = refl;
  done = discarding_none c.args.outstanding.now c.args.queue.now c.args.events.now;
}

pub loop-next-preserved : goal.loop-next-preserved
loop-next-preserved c =
    let here = c.loop-next in
    let popped = c.get_unsent_message_to_discard in
    let named : first_of here.outstanding.items.discards ≡ Some (discard_of c.in-Some.next) = sym (rw c.in-Some.is at c.unsent_message_to_discard.ensures) in
    record {
      items = search rules;
      rest = search rules;
      done =
          discarding_on _ _ _ here.outstanding here.queue here.events here.invariant.done (discard_of c.in-Some.next) popped.new.self named popped.ensures.rest
          c.discard.new.self c.discard.new.events c.in_ok-discard.ensures.queue c.in_ok-discard.ensures.emitted;
    }

pub returns-in_err-discard-clause-err : goal.returns-in_err-discard-clause-err
returns-in_err-discard-clause-err c =
    let here = c.loop-next in
    on_err _ _ (discarding_stops _ _ _ here.outstanding here.queue here.events c.discard.new.self c.discard.new.events here.invariant.done c.in_err-discard.ensures.err)
