use Rattle.std.proofs.Common.{sym, subst}
use Rattle.std.specs.List.{All}
use Rattle.sctp_tx_outstanding.specs.Item.{NotBefore, never}
use Rattle.sctp_tx_outstanding.proofs.EarliestLemmas.{none_before}
use Rattle.sctp_tx_outstanding.proofs.kept.first_expiry.Goals as goal

pub returns-in-Some : goal.returns-in-Some
returns-in-Some c = c.in-Some.ensures c.args.items.now.items c.requires

pub returns-in-None : goal.returns-in-None
returns-in-None c = subst (λ o. All (NotBefore o) c.args.items.now.items) (sym c.earliest_of.ensures) (none_before never c.args.items.now.items)
