use Rattle.std.proofs.Common.{◌/◌, ◌^◌, arith}
use Rattle.sctp_tx_outstanding.proofs.ExpiriesLemmas.{none_before_least}
use Rattle.sctp_tx_outstanding.proofs.expiries.Expiries.earliest.Goals as goal

pub returns : goal.returns
returns c = λ is known.
    let least = c.least_below-least.result in
    none_before_least c.args.self.now.keys.keys c.args.self.now.first c.args.self.now.dropped least (least / 2 ^ 32) is (omega (arith, c.least_below-least.ensures.end)) (omega arith)
    (λ n below. c.least_below-least.ensures.none n (omega arith) below) (known c.if-not-self.false)
