use Rattle.std.proofs.Common.{◌∷◌, arith, rules}
use Rattle.sctp_tx_outstanding.specs.Expiries.{AreMoments}
use Rattle.sctp_tx_outstanding.proofs.ExpiriesLemmas.{first_dropped}
use Rattle.sctp_tx_outstanding.proofs.expiries.Expiries.drop_first.Goals as goal

pub returns : goal.returns
returns c = λ yes.
    let old = c.args.self.now in
    let key = c.in-Some.first.now in
    let news = c.pop_first.new.self.keys in
    let known : AreMoments (key ∷ news) old.first old.dropped c.args.items.now.items = search rules in
    first_dropped key news old.first old.dropped c.max-self.result c.is_due_under.result c.args.items.now.items (omega arith) (omega arith) c.if-is_due_under.false c.is_due_under.ensures known
