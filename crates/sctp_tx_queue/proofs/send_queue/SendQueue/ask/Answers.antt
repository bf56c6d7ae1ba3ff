use Rattle.std.proofs.Common.{◌≡◌, suc, ap, sym, ◌∙◌, arith, rules}
use Rattle.std.specs.Prelude.{option_map}
use Rattle.sctp_tx_queue.specs.Produced.{turn, produce}
use Rattle.sctp_tx_queue.specs.Interrupted.{Interrupted}
use Rattle.sctp_tx_queue.specs.Views.{produced_of}
use Rattle.sctp_tx_queue.proofs.ProduceLemmas.{step, given, passed_more, passed_as}
use Rattle.sctp_tx_queue.proofs.send_queue.SendQueue.ask.Goals as goal
use Rattle.sctp_tx_queue.proofs.send_queue.SendQueue.ask.Goals.{In-Some-made}

pub loop-turns-preserved : goal.loop-turns-preserved
loop-turns-preserved c =
    let next = sym c.next_stream.ensures ∙ ap (λ o. option_map (λ i. i.0) o) c.in-Some.is in
    let none = ap (λ o. option_map produced_of o) (sym c.in_default-made.is) ∙ c.in_ok-made.ensures.made in
    let passed = c.loop-turns.invariant.passed in
    record {
      rest =
          sym (step c.loop-turns.turns c.args.now c.args.size c.in-Some.id.0 c.loop-turns.self c.turn.new.self c.loop-turns.events c.turn.new.events (omega (arith, c.loop-turns-test.true))
          next none c.in_ok-made.ensures.queue c.in_ok-made.ensures.emitted)
          ∙ c.loop-turns.invariant.rest;
      passed = (
        suc passed.0,
        passed_as (suc passed.0) c.args.now c.args.size c.args.self.now (turn c.args.now c.in-Some.id.0 c.args.size c.loop-turns.self c.loop-turns.events).queue c.turn.new.self c.args.events.now
            (turn c.args.now c.in-Some.id.0 c.args.size c.loop-turns.self c.loop-turns.events).emitted c.turn.new.events
            (passed_more passed.0 c.args.now c.args.size c.in-Some.id.0 c.args.self.now c.loop-turns.self c.args.events.now c.loop-turns.events passed.1 next (sym none)) c.in_ok-made.ensures.queue c.in_ok-made.ensures.emitted,
      );
    }

-- the turn that gives a fragment is the last
last : (c : In-Some-made) → turn c.args.now c.in-Some.id.0 c.args.size c.loop-turns.self c.loop-turns.events ≡ produce c.args.now c.args.size c.args.self.now c.args.events.now
last c =
    sym (given c.loop-turns.turns c.args.now c.args.size c.in-Some.id.0 c.loop-turns.self c.loop-turns.events (produced_of c.in-Some-made.made) (omega (arith, c.loop-turns-test.true))
    (sym c.next_stream.ensures ∙ ap (λ o. option_map (λ i. i.0) o) c.in-Some.is) (ap (λ o. option_map produced_of o) (sym c.in-Some-made.is) ∙ c.in_ok-made.ensures.made))
    ∙ c.loop-turns.invariant.rest

pub returns-in-Some-made-clause-queue : goal.returns-in-Some-made-clause-queue
returns-in-Some-made-clause-queue c = c.in_ok-made.ensures.queue ∙ ap (λ t. t.queue) (last c)

pub returns-in-Some-made-clause-emitted : goal.returns-in-Some-made-clause-emitted
returns-in-Some-made-clause-emitted c = c.in_ok-made.ensures.emitted ∙ ap (λ t. t.emitted) (last c)

pub returns-in-Some-made-clause-made : goal.returns-in-Some-made-clause-made
returns-in-Some-made-clause-made c = ap (λ o. option_map produced_of o) (sym c.in-Some-made.is) ∙ c.in_ok-made.ensures.made ∙ ap (λ t. t.made) (last c)

pub returns-in_err-made-clause-err : goal.returns-in_err-made-clause-err
returns-in_err-made-clause-err c =
    let stopped : Interrupted c.args.now c.args.size c.args.self.now c.args.events.now c.turn.new.self c.turn.new.events = record {
      turns = c.loop-turns.invariant.passed.0;
      queue = c.loop-turns.self;
      emitted = c.loop-turns.events;
      passed = c.loop-turns.invariant.passed.1;
      id = c.in-Some.id.0;
      next = sym c.next_stream.ensures ∙ ap (λ o. option_map (λ i. i.0) o) c.in-Some.is;
      stopped = c.in_err-made.ensures.err;
    } in
    search (rules, stopped)
