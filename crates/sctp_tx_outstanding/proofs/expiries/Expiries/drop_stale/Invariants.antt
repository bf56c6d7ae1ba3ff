use Rattle.sctp_tx_outstanding.specs.Expiries.{Expects}
use Rattle.sctp_tx_outstanding.proofs.expiries.Expiries.drop_stale.Given as goal

abbrev pub invariant-loop : goal.invariant-loop
invariant-loop l = Expects l.self l.items.items
