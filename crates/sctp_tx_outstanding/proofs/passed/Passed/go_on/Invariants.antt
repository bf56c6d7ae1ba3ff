use Rattle.sctp_tx_outstanding.specs.Passed.{IsPassed}
use Rattle.sctp_tx_outstanding.proofs.passed.Passed.go_on.Given as goal

abbrev pub invariant-loop : goal.invariant-loop
invariant-loop l = IsPassed l.is_interleaved l.items.items l.self
