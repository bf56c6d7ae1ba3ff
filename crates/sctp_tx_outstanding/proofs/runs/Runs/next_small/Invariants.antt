use Rattle.std.proofs.Common.{ℕ, ◌≤◌, ◌<◌, ◌-◌, length}
use Rattle.sctp_tx_outstanding.specs.Item.{Item}
use Rattle.sctp_tx_outstanding.specs.Waiting.{IsAtLeast}
use Rattle.sctp_tx_outstanding.specs.Runs.{known_of}
use Rattle.sctp_tx_outstanding.specs.Sizes.{Exceeds}
use Rattle.sctp_tx_outstanding.proofs.runs.Runs.next_small.Given as goal

abbrev pub invariant-loop-next : goal.invariant-loop-next
invariant-loop-next l = record { large : (n : ℕ) (i : Item) → l.run ≤ n → n < l.next → IsAtLeast (known_of l.self.known.items n).least i → Exceeds l.is_interleaved l.allowed i }

abbrev pub decreases-loop-next : goal.decreases-loop-next
decreases-loop-next l = length l.self.known.items - l.next
