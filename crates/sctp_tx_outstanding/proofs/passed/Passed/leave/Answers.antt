use Rattle.std.proofs.Common.{◌≡◌, ◌∷◌, ◌+◌, ◌-◌, suc, subst, arith}
use Rattle.sctp_tx_outstanding.specs.Passed.{ArePassed}
use Rattle.sctp_tx_outstanding.proofs.PassedLemmas.{passed_left}
use Rattle.sctp_tx_outstanding.proofs.passed.Passed.leave.Goals as goal

pub returns-then-self : goal.returns-then-self
returns-then-self c = λ m i is h. c.forget.ensures m is

pub returns : goal.returns
returns c = λ m i is h.
    let old = c.args.self.now in
    let ts = old.touched.items in
    let some : old.count ≡ suc (old.count - 1) = omega (arith, c.if-self-eq0.false) in
    let more : suc old.left ≡ old.left + 1 = omega arith in
    subst (λ n. ArePassed m is (old.count - 1) n ts) more (passed_left m i is (old.count - 1) old.left ts (subst (λ n. ArePassed m (i ∷ is) n old.left ts) some h))
