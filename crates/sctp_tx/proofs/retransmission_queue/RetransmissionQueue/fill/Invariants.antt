use Rattle.std.proofs.Common.{◌≡◌, ℕ, suc, ◌<◌, ◌^◌, List, [], length}
use Rattle.std.specs.Prelude.{nat_lt}
use Rattle.sctp_chunk.specs.Chunk.{FragmentTree}
use Rattle.sctp_tx.specs.Sending.{fill, filling}
use Rattle.sctp_tx.specs.Taken.{taken_all}
use Rattle.sctp_tx.proofs.PartlyLemmas.{Turned}
use Rattle.sctp_tx.proofs.retransmission_queue.RetransmissionQueue.fill.Given as goal

-- the fragments so far; and so many turns are enough
abbrev pub invariant-loop-rest : goal.invariant-loop-rest
invariant-loop-rest g l = (chunks : List (ℕ × FragmentTree)) × (turns : ℕ) × (l.left < turns) × (l.left < 2 ^ 32)
    × (fill turns l.now (filling l.self l.queue l.events chunks l.left)
    ≡ fill (suc l.initial.left) l.now (filling l.initial.self l.initial.queue l.initial.events [] l.initial.left))
    × Turned l.now (filling l.initial.self l.initial.queue l.initial.events [] l.initial.left) (filling l.self l.queue l.events chunks l.left)
    × (l.packet ≡ taken_all (g.P.TakesFragments.taken l.form) chunks l.initial.packet)
    × (l.is_sent ≡ nat_lt 0 (length chunks))

abbrev pub decreases-loop-rest : goal.decreases-loop-rest
decreases-loop-rest g l = l.left
