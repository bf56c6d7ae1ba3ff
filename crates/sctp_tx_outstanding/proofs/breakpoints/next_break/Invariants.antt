use Rattle.std.proofs.Common.{◌≡◌, ℕ, ◌<◌, ◌≤◌, ◌&&◌, true}
use Rattle.std.specs.Prelude.{nat_lt}
use Rattle.std.specs.VecDeque.Iter.{deque_iter_rest}
use Rattle.sctp_tx_outstanding.specs.Breaks.{AscendFrom}
use Rattle.sctp_tx_outstanding.proofs.BreakLemmas.{has}
use Rattle.sctp_tx_outstanding.proofs.breakpoints.next_break.Given as goal

-- of the breakpoints that were looked at none stands between the number and `next`
abbrev pub invariant-loop-breakpoint : goal.invariant-loop-breakpoint
invariant-loop-breakpoint l = record {
  onward : l.number ≤ l.next;
  within : l.next ≤ l.end;
  rest : (n : ℕ) → l.number < n → n < l.next → has n (deque_iter_rest l.breakpoint-iterator) ≡ has n l.breakpoints.items;
  ascend : l.is_ascending ≡ true → AscendFrom 0 (deque_iter_rest l.breakpoint-iterator);
  found : l.next < l.end → (nat_lt l.number l.next && has l.next l.breakpoints.items) ≡ true;
}
