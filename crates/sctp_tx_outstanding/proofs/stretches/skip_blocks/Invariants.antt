use Rattle.std.proofs.Common.{◌+◌, ◌-◌, length}
use Rattle.sctp_tx_outstanding.specs.Passes.{IsCursor}
use Rattle.sctp_tx_outstanding.proofs.stretches.skip_blocks.Given as goal

abbrev pub invariant-loop-from : goal.invariant-loop-from
invariant-loop-from l = IsCursor l.blocks (l.place + l.first) l.from

abbrev pub decreases-loop-from : goal.decreases-loop-from
decreases-loop-from l = length l.blocks - l.from
