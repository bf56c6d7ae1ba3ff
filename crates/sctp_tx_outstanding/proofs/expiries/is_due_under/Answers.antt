use Rattle.std.proofs.Common.{◌≡◌, ◌/◌, ◌^◌, nat_eq, ap, ◌∙◌, arith, rules}
use Rattle.sctp_tx_outstanding.specs.Expiries.{expires_as}
use Rattle.sctp_tx_outstanding.proofs.ExpiriesLemmas.{expires_here, none_here}
use Rattle.sctp_tx_outstanding.proofs.expiries.is_due_under.Goals as goal

pub returns-in-Some-get : goal.returns-in-Some-get
returns-in-Some-get c = λ moment k fits same.
    let is = c.args.items.now.items in
    let place : c.in-Some.place ≡ k = omega (arith, c.in-Some.ensures.1, same, fits) in
    let at : c.args.key / 2 ^ 32 ≡ moment = omega (arith, same, fits) in
    ap (λ m. nat_eq c.expiry.result m) at ∙ (ap (λ e. nat_eq e moment) c.expiry.ensures
    ∙ (expires_here moment c.in-Some.place is c.in-Some-get.item.now (search rules) c.in-Some-get.ensures.lookup ∙ ap (λ p. expires_as moment p is) place))

pub returns-in-None : goal.returns-in-None
returns-in-None c = λ moment k fits same.
    let is = c.args.items.now.items in
    let place : c.in-Some.place ≡ k = omega (arith, c.in-Some.ensures.1, same, fits) in
    none_here moment c.in-Some.place is (search rules) ∙ ap (λ p. expires_as moment p is) place
