use Rattle.std.proofs.Common.{◌≡◌, ◌+◌, ◌++◌, length, suc, refl, ap, sym, subst, ◌∙◌, arith, rules}
use Rattle.sctp_fragments.specs.Held.{bytes_of, intervals_of, is_in_turn, NoneInTurn, message_of_run}
use Rattle.sctp_fragments.specs.Interval.{held_of, run_of}
use Rattle.sctp_fragments.specs.ReassemblyKey.{pair_rank}
use Rattle.sctp_reassembly.specs.Delivery.{deliver}
use Rattle.sctp_reassembly.proofs.FinishedLemmas.{none_later}
use Rattle.sctp_reassembly.proofs.ExtendsLemmas.{extends_none, extends_both}
use Rattle.sctp_reassembly.proofs.FindLemmas.{find_none, left_unfound}
use Rattle.sctp_reassembly.proofs.DeliverLemmas.{length_found, found_passes, turn_number, deliver_step, deliver_ends, one_earlier}
use Rattle.sctp_reassembly.proofs.InterruptedLemmas.{turns_begin, turns_step, turns_end, on_err}
use Rattle.sctp_reassembly.proofs.ordered_fragments.deliver.Goals as goal

pub loop-interval-init : goal.loop-interval-init
loop-interval-init g c = record {
  stream = refl;
  messages = refl;
  onward = omega arith;
  fits = search rules;
  part = turns_begin (c.args.last.now + 1) c.args.list.now c.args.ready.now;
  kept = extends_none c.args.ready.now;
  bytes = omega arith;
  fragments = omega arith;
  noted = c.requires.noted;
}

pub loop-interval-smaller : goal.loop-interval-smaller
loop-interval-smaller g c =
    let l = length_found (is_in_turn (c.loop-interval.last + 1)) (intervals_of c.loop-interval.list) (run_of (held_of g.K.ReassemblyKey.number g.K.ReassemblyKey.index) c.in-Some.interval) (sym c.in-Some.ensures.taken) in
    omega (arith, l, ap length c.in-Some.ensures.intervals)

pub loop-interval-preserved : goal.loop-interval-preserved
loop-interval-preserved g c =
    let run = run_of (held_of g.K.ReassemblyKey.number g.K.ReassemblyKey.index) c.in-Some.interval in
    let passes = found_passes (is_in_turn (c.loop-interval.last + 1)) (intervals_of c.loop-interval.list) run (sym c.in-Some.ensures.taken) in
    let turn = turn_number run (held_of g.K.ReassemblyKey.number g.K.ReassemblyKey.index c.first.result.now) (c.loop-interval.last + 1) passes c.first.ensures in
    let up : c.number-number.result + 1 ≡ suc (c.loop-interval.last + 1) = omega (arith, turn, c.number-number.ensures) in
    let step = deliver_step (c.loop-interval.last + 1) c.loop-interval.list c.pop_in_turn.new.list run (sym c.in-Some.ensures.taken) c.in-Some.ensures.value c.in-Some.ensures.intervals in
    record {
      stream = ap (λ n. (deliver n c.pop_in_turn.new.list).stream) up ∙ (sym (ap (λ d. d.stream) step) ∙ c.loop-interval.invariant.stream);
      messages = ap (λ n. c.push_complete.new.self ++ (deliver n c.pop_in_turn.new.list).messages) up
          ∙ one_earlier c.loop-interval.ready c.push_complete.new.self (message_of_run run) (message_of_run run) (deliver (suc (c.loop-interval.last + 1)) c.pop_in_turn.new.list) _ c.in_ok-push_complete.ensures.ok refl
          (ap (λ d. c.loop-interval.ready ++ d.messages) (sym step) ∙ c.loop-interval.invariant.messages);
      onward = omega (arith, up, c.loop-interval.invariant.onward);
      fits = search rules;
      part = turns_step (c.loop-interval.last + 1) (c.number-number.result + 1) c.loop-interval.list run c.pop_in_turn.new.list c.loop-interval.ready c.push_complete.new.self (message_of_run run) (c.args.last.now + 1) c.args.list.now c.args.ready.now
          (sym c.in-Some.ensures.taken) c.in-Some.ensures.value up c.in_ok-push_complete.ensures.ok refl c.loop-interval.invariant.part;
      kept = extends_both _ _ _ c.loop-interval.invariant.kept c.push_complete.ensures.kept;
      bytes = omega (arith, c.in-Some.ensures.bytes, c.push_complete.ensures.bytes, c.loop-interval.invariant.bytes);
      fragments = omega (arith, c.in-Some.ensures.fragments, c.loop-interval.invariant.fragments);
      noted = none_later g.K.ReassemblyKey.number g.K.ReassemblyKey.index (pair_rank (c.loop-interval.last + 1) 0) (pair_rank (c.number-number.result + 1) 0) c.pop_in_turn.new.finished (intervals_of c.pop_in_turn.new.list) (omega (arith, up)) c.in-Some.ensures.noted;
    }

pub returns-clause-held : goal.returns-clause-held
returns-clause-held g c =
    let none = sym c.in_default.ensures.taken in
    c.in_default.ensures.value ∙ (left_unfound (is_in_turn (c.loop-interval.last + 1)) c.loop-interval.list none
    ∙ (sym (ap (λ d. d.stream.held) (deliver_ends (c.loop-interval.last + 1) c.loop-interval.list none)) ∙ ap (λ s. s.held) c.loop-interval.invariant.stream))

pub returns-clause-bytes : goal.returns-clause-bytes
returns-clause-bytes g c =
    let none = sym c.in_default.ensures.taken in
    let same = ap bytes_of (c.in_default.ensures.value ∙ left_unfound (is_in_turn (c.loop-interval.last + 1)) c.loop-interval.list none) in
    omega (arith, same, c.loop-interval.invariant.bytes)

pub returns-clause-fragments : goal.returns-clause-fragments
returns-clause-fragments g c =
    let none = sym c.in_default.ensures.taken in
    let same = ap length (c.in_default.ensures.value ∙ left_unfound (is_in_turn (c.loop-interval.last + 1)) c.loop-interval.list none) in
    omega (arith, same, c.loop-interval.invariant.fragments)

pub returns-clause-settled : goal.returns-clause-settled
returns-clause-settled g c =
    let none = sym c.in_default.ensures.taken in
    let same = c.in_default.ensures.value ∙ left_unfound (is_in_turn (c.loop-interval.last + 1)) c.loop-interval.list none in
    subst (λ hs. NoneInTurn (c.loop-interval.last + 1) (intervals_of hs)) (sym same) (find_none (is_in_turn (c.loop-interval.last + 1)) (intervals_of c.loop-interval.list) none)

pub returns-in_err-push_complete-clause-err : goal.returns-in_err-push_complete-clause-err
returns-in_err-push_complete-clause-err g c =
    on_err c.from_residual.result (turns_end (c.loop-interval.last + 1) c.loop-interval.list c.pop_in_turn.new.list c.loop-interval.ready c.push_complete.new.self (c.args.last.now + 1) c.args.list.now c.args.ready.now c.in-Some.ensures.value c.in_err-push_complete.ensures.err c.loop-interval.invariant.part)
