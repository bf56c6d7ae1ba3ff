use Rattle.std.proofs.Common.{◌==◌, ◌<◌, ◌^◌, false, cond, ap, ◌∙◌, arith}
use Rattle.sctp_tx_outstanding.specs.Numbers.{is_listed}
use Rattle.sctp_tx_outstanding.proofs.NumbersLemmas.{listed_put}
use Rattle.sctp_tx_outstanding.proofs.ExpiriesLemmas.{keeps_others, first_left}
use Rattle.sctp_tx_outstanding.proofs.expiries.Expiries.leave.Goals as goal

pub returns-then-not-self : goal.returns-then-not-self
returns-then-not-self c = λ i is known yes.
    let old = c.args.self.now in
    first_left old.keys.keys old.keys.keys old.first c.in-Some.next old.dropped i is (omega arith) (λ m n few above h. h) (known yes)

pub returns-in_default-key_of : goal.returns-in_default-key_of
returns-in_default-key_of c = λ i is known yes.
    let old = c.args.self.now in
    first_left old.keys.keys old.keys.keys old.first c.in-Some.next old.dropped i is (omega arith) (λ m n few above h. h) (known yes)

pub returns : goal.returns
returns c = λ i is known yes.
    let old = c.args.self.now in
    let news = c.remove.new.self.keys in
    let small : old.first < 2 ^ 32 = omega arith in
    first_left old.keys.keys news old.first c.in-Some.next old.dropped i is (omega arith)
    (keeps_others c.args.deadline old.first old.keys.keys news small (λ key. listed_put c.in-Some-key_of.key false old.keys.keys news c.remove.ensures.updates.0 key ∙ ap (λ k. cond (key == k) false (is_listed old.keys.keys key)) c.in-Some-key_of.ensures))
    (known yes)
