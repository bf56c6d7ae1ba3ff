use Rattle.std.proofs.Common.{◌↔◌, drop}
use Rattle.sctp_chunk.specs.Covered.{AreRuns}
use Rattle.sctp_chunk.proofs.runs.are_runs.Given as goal

abbrev pub invariant-loop-block : goal.invariant-loop-block
invariant-loop-block l = AreRuns l.from l.blocks ↔ AreRuns l.lowest (drop l.block-index l.blocks)
