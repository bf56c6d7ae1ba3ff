use Rattle.std.proofs.Common.{take}
use Rattle.sctp_tx_outstanding.specs.Expiries.{Expects}
use Rattle.sctp_tx_outstanding.proofs.kept.expect_all.Given as goal

abbrev pub invariant-loop-place : goal.invariant-loop-place
invariant-loop-place l = Expects l.expiries (take l.place l.items.items)
