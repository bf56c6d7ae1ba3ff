use Rattle.std.proofs.Common.{◌≡◌, ◌∙◌, ◌∷◌, sym, arith, rules}
use Rattle.std.specs.VecDeque.Iter.{deque_iter_rest}
use Rattle.sctp_tx_outstanding.proofs.BreakLemmas.{ascend_on, has_on, none_on}
use Rattle.sctp_tx_outstanding.proofs.breakpoints.next_break.Goals as goal

pub returns-then-is_ascending-clause-before : goal.returns-then-is_ascending-clause-before
returns-then-is_ascending-clause-before c = λ n more less.
    let b = c.in-Some.breakpoint.now in
    let rest = deque_iter_rest c.loop-breakpoint.breakpoint-iterator in
    let step : rest ≡ b ∷ deque_iter_rest c.next.new.self = search rules in
    sym (c.loop-breakpoint.invariant.rest n more (omega (arith, less, c.min-next.ensures)))
    ∙ none_on b (deque_iter_rest c.next.new.self) rest step n (omega (arith, less, c.min-next.ensures)) (c.loop-breakpoint.invariant.ascend c.if-is_ascending.true)

pub loop-breakpoint-preserved : goal.loop-breakpoint-preserved
loop-breakpoint-preserved c =
    let b = c.in-Some.breakpoint.now in
    let bs = deque_iter_rest c.next.new.self in
    let rest = deque_iter_rest c.loop-breakpoint.breakpoint-iterator in
    let step : rest ≡ b ∷ bs = search rules in
    let before = c.loop-breakpoint.invariant in
    record {
      onward = before.onward;
      within = before.within;
      rest = λ n more less. has_on b bs rest step n (omega (arith, more, c.if-number-breakpoint.false)) ∙ before.rest n more less;
      ascend = λ yes. ascend_on b bs rest step (before.ascend yes);
      found = before.found;
    }
