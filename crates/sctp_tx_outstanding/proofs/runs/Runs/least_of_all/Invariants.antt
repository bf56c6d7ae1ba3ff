use Rattle.std.proofs.Common.{ℕ, ◌≤◌, ◌<◌, ◌-◌, ◌+◌}
use Rattle.sctp_tx_outstanding.specs.Runs.{known_of}
use Rattle.sctp_tx_outstanding.proofs.runs.Runs.least_of_all.Given as goal

abbrev pub invariant-loop-run : goal.invariant-loop-run
invariant-loop-run l = record { least : (n : ℕ) → n < l.run → l.least ≤ (known_of l.self.known.items n).least }

abbrev pub decreases-loop-run : goal.decreases-loop-run
decreases-loop-run l = l.last + 1 - l.run
