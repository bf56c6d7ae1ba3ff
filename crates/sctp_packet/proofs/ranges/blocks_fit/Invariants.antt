use Rattle.std.proofs.Common.{ℕ, ◌<◌, get_or}
use Rattle.sctp_chunk.specs.declared.sack.GapAckBlock.{GapAckBlock}
use Rattle.sctp_chunk.specs.Grammar.{FitsBlock}
use Rattle.sctp_packet.proofs.ranges.blocks_fit.Given as goal

abbrev pub invariant-loop-block : goal.invariant-loop-block
invariant-loop-block l = (k : ℕ) (d : GapAckBlock) → k < l.block-index → FitsBlock (get_or l.blocks k d)
