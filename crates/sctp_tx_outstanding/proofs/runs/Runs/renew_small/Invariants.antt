use Rattle.sctp_tx_outstanding.specs.Runs.{HasRuns}
use Rattle.sctp_tx_outstanding.proofs.runs.Runs.renew_small.Given as goal

abbrev pub invariant-loop-run : goal.invariant-loop-run
invariant-loop-run l = record { runs : HasRuns l.initial.self l.items.items → HasRuns l.self l.items.items }
