use Rattle.std.proofs.Common.{take}
use Rattle.sctp_tx_outstanding.specs.Messages.{Lists}
use Rattle.sctp_tx_outstanding.proofs.kept.list_all.Given as goal

abbrev pub invariant-loop-place : goal.invariant-loop-place
invariant-loop-place l = Lists l.messages (take l.place l.items.items)
