use Rattle.std.proofs.Common.{ℕ, ◌<◌, get_or}
use Rattle.sctp_chunk.specs.declared.forward_tsn.SkippedStream.{SkippedStream}
use Rattle.sctp_chunk.specs.Grammar.{FitsSkip}
use Rattle.sctp_packet.proofs.ranges.skips_fit.Given as goal

abbrev pub invariant-loop-skip : goal.invariant-loop-skip
invariant-loop-skip l = (k : ℕ) (d : SkippedStream) → k < l.skip-index → FitsSkip (get_or l.skipped k d)
