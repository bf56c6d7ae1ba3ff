use Rattle.std.proofs.Common.{◌+◌, ◌*◌, ◌^◌, ap, rules, arith}
use Rattle.sctp_tx_outstanding.specs.Expiries.{ListsUpTo}
use Rattle.sctp_tx_outstanding.proofs.ExpiriesLemmas.{found_due}
use Rattle.sctp_tx_outstanding.proofs.expiries.Expiries.due.Goals.{then-self, else-self}
use Rattle.sctp_tx_outstanding.proofs.expiries.Expiries.due.Goals as goal

pub returns : goal.returns
returns c = λ is known yes k h.
    let old = c.args.self.now in
    let end = (c.as_nanos.result + 1) * 2 ^ 32 in
    elim c.if-self.branch [
      | then-self w ↦
          let listed : ListsUpTo end old.first old.keys.keys c.if-self.places.keys = search rules in
          found_due old.keys.keys c.if-self.places.keys old.first old.dropped c.args.now end is (omega (arith, c.as_nanos.ensures.value, c.as_nanos.ensures.small)) (ap (λ n. (n + 1) * 2 ^ 32) c.as_nanos.ensures.value) listed (known (search rules)) k h
      | else-self w ↦ search rules
    ]
