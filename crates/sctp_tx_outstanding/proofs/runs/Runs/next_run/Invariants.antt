use Rattle.std.proofs.Common.{◌≡◌, ℕ, ◌≤◌, ◌<◌, ◌-◌, length}
use Rattle.sctp_tx_outstanding.specs.Runs.{bits_of, known_of}
use Rattle.sctp_tx_outstanding.proofs.runs.Runs.next_run.Given as goal

abbrev pub invariant-loop-next : goal.invariant-loop-next
invariant-loop-next l = record { none : (n : ℕ) → l.run ≤ n → n < l.next → bits_of l.of (known_of l.self.known.items n) ≡ 0 }

abbrev pub decreases-loop-next : goal.decreases-loop-next
decreases-loop-next l = length l.self.known.items - l.next
