use Rattle.std.proofs.Common.{◌≡◌, ℕ}
use Rattle.sctp_tx_outstanding.specs.Runs.{known_of}
use Rattle.sctp_tx_outstanding.proofs.runs.list_runs.Given as goal

abbrev pub invariant-loop : goal.invariant-loop
invariant-loop l = record { same : (n : ℕ) → known_of l.known.items n ≡ known_of l.initial.known.items n }
