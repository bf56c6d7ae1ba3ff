use Rattle.std.proofs.Common.{◌≡◌, map, drop}
use Rattle.sctp_tx_outstanding.specs.Views.{chunk_of}
use Rattle.sctp_tx.specs.Taken.{taken_all}
use Rattle.sctp_tx.proofs.retransmission_queue.take_each.Given as goal

-- what is left, behind what was handed out
abbrev pub invariant-loop-chunk : goal.invariant-loop-chunk
invariant-loop-chunk g l =
    taken_all (g.P.TakesFragments.taken l.form) (map chunk_of (drop l.chunk-index l.chunks)) l.packet
    ≡ taken_all (g.P.TakesFragments.taken l.form) (map chunk_of l.initial.chunks) l.initial.packet
