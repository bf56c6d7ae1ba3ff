use Rattle.std.proofs.Common.{ap, sym}
use Rattle.sctp_tx_outstanding.proofs.ExpiryLemmas.{expire_quiet}
use Rattle.sctp_tx_outstanding.proofs.outstanding_data.OutstandingData.expire_outstanding_chunks.Goals as goal

pub returns-then-not-may_expire-clause-items : goal.returns-then-not-may_expire-clause-items
returns-then-not-may_expire-clause-items c =
    let s = c.args.self.now.items in
    sym (ap (λ x. record c.args.self.now { items = x.items }) (expire_quiet c.args.now s c.args.events.now (c.may_expire.ensures c.if-not-may_expire.true)))

pub returns-then-not-may_expire-clause-emitted : goal.returns-then-not-may_expire-clause-emitted
returns-then-not-may_expire-clause-emitted c =
    let s = c.args.self.now.items in
    sym (ap (λ x. x.emitted) (expire_quiet c.args.now s c.args.events.now (c.may_expire.ensures c.if-not-may_expire.true)))
