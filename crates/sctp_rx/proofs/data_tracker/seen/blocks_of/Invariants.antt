use Rattle.std.proofs.Common.{take, ◌≡◌}
use Rattle.sctp_rx.specs.SeenSteps.{runs_of}
use Rattle.sctp_rx.specs.Sack.{blocks_of}
use Rattle.sctp_rx.proofs.data_tracker.seen.blocks_of.Given as goal

abbrev pub invariant-loop-i : goal.invariant-loop-i
invariant-loop-i l = l.blocks.items ≡ blocks_of l.front (runs_of (take l.i l.runs))
