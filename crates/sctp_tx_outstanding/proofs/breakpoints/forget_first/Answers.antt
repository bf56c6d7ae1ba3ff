use Rattle.std.proofs.Common.{◌≡◌, ◌∙◌, List, ℕ, filter, drop, subst, sym, ap, true, false}
use Rattle.std.specs.Prelude.{nat_lt}
use Rattle.sctp_tx_outstanding.specs.Breaks.{AscendFrom, is_first_passed}
use Rattle.sctp_tx_outstanding.proofs.BreakLemmas.{first_gone, rest_stays}
use Rattle.sctp_tx_outstanding.proofs.breakpoints.forget_first.Goals as goal

pub loop-breakpoints-preserved : goal.loop-breakpoints-preserved
loop-breakpoints-preserved c =
    let n = c.args.number in
    let bs = c.loop-breakpoints.breakpoints.items in
    let passed : is_first_passed n bs ≡ true = sym c.is_first_passed.ensures ∙ c.loop-breakpoints-test.true in
    let gone = first_gone n bs passed c.loop-breakpoints.invariant.ascend in
    let rest : c.pop_front.new.self.items ≡ drop 1 bs = c.pop_front.ensures.rest in
    record {
      rest = ap (λ (xs : List ℕ). filter (λ b. nat_lt n b) xs) rest ∙ gone.0 ∙ c.loop-breakpoints.invariant.rest;
      ascend = subst (λ (xs : List ℕ). AscendFrom 0 xs) (sym rest) gone.1;
    }

pub returns-clause-rest : goal.returns-clause-rest
returns-clause-rest c =
    let n = c.args.number in
    let bs = c.loop-breakpoints.breakpoints.items in
    let stays : is_first_passed n bs ≡ false = sym c.is_first_passed.ensures ∙ c.loop-breakpoints-test.false in
    rest_stays n bs stays c.loop-breakpoints.invariant.ascend ∙ c.loop-breakpoints.invariant.rest
