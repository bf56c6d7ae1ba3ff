use Rattle.std.proofs.Common.{◌≡◌, List, length}
use Rattle.sctp_packet.specs.Chunk.{ChunkTree}
use Rattle.sctp_packet.specs.View.{AreLeft}
use Rattle.sctp_handshake.specs.Outlines.{outline_of}
use Rattle.sctp_handshake.proofs.OutlineLemmas.{with_left}
use Rattle.sctp_handshake.proofs.validation.Outline.of.Given as goal

-- what was seen, with what is left behind, is all
abbrev pub invariant-loop-raw : goal.invariant-loop-raw
invariant-loop-raw l = (chunks : List ChunkTree) → AreLeft l.fn.view chunks → (left : List ChunkTree) × AreLeft l.left left × (with_left l.outline left ≡ outline_of chunks)

abbrev pub decreases-loop-raw : goal.decreases-loop-raw
decreases-loop-raw l = length l.left.rest
