use Rattle.std.proofs.Common.{◌≡◌, List, length}
use Rattle.sctp_packet.specs.Chunk.{ChunkTree}
use Rattle.sctp_packet.specs.View.{AreLeft}
use Rattle.spec_endpoint.specs.Input.{has_more_counted}
use Rattle.sctp_handshake.proofs.validation.has_more_counted.Given as goal

-- there is room for those that were seen
abbrev pub invariant-loop-raw : goal.invariant-loop-raw
invariant-loop-raw l = (chunks : List ChunkTree) → AreLeft l.fn.view chunks
    → (left : List ChunkTree) × AreLeft l.left left × (has_more_counted l.room left ≡ has_more_counted l.fn.most chunks)

abbrev pub decreases-loop-raw : goal.decreases-loop-raw
decreases-loop-raw l = length l.left.rest
