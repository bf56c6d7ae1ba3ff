use Rattle.std.proofs.Common.{◌≡◌, filter, length}
use Rattle.std.specs.Prelude.{nat_lt}
use Rattle.sctp_tx_outstanding.specs.Breaks.{AscendFrom}
use Rattle.sctp_tx_outstanding.proofs.breakpoints.forget_first.Given as goal

abbrev pub invariant-loop-breakpoints : goal.invariant-loop-breakpoints
invariant-loop-breakpoints l = record {
  rest : filter (λ b. nat_lt l.number b) l.breakpoints.items ≡ filter (λ b. nat_lt l.number b) l.initial.breakpoints.items;
  ascend : AscendFrom 0 l.breakpoints.items;
}

abbrev pub decreases-loop-breakpoints : goal.decreases-loop-breakpoints
decreases-loop-breakpoints l = length l.breakpoints.items
