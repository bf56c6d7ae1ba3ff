use Rattle.sctp_chunk.specs.Views.{raw_chunk}
use Rattle.sctp_packet.proofs.ViewLemmas.{left_some, left_none, ended_lem}
use Rattle.sctp_packet.proofs.view.PacketView.next_chunk.Goals as goal

pub invariant_of-self : goal.invariant_of-self
invariant_of-self c =
    let some = left_some c.self.inside.rest.now c.in-Ok.rest.now (raw_chunk c.in-Ok.chunk) c.self.invariant.0 c.in-Ok.ensures.chunk c.self.invariant.1 in
    (some.1, some.4)

pub returns-in-Ok-clause-next : goal.returns-in-Ok-clause-next
returns-in-Ok-clause-next c = λ chunks left.
    left_some c.self.inside.rest.now c.in-Ok.rest.now (raw_chunk c.in-Ok.chunk) chunks c.in-Ok.ensures.chunk (rw (← c.self.view_is) at left)

pub returns-in-Ok-clause-chunk : goal.returns-in-Ok-clause-chunk
returns-in-Ok-clause-chunk c =
    let some = left_some c.self.inside.rest.now c.in-Ok.rest.now (raw_chunk c.in-Ok.chunk) c.self.invariant.0 c.in-Ok.ensures.chunk c.self.invariant.1 in
    (some.0, some.3)

pub returns-in-Ok-clause-taken : goal.returns-in-Ok-clause-taken
returns-in-Ok-clause-taken c = rw (← c.self.view_is) c.in-Ok.ensures.chunk

pub returns-in-Err-clause-next : goal.returns-in-Err-clause-next
returns-in-Err-clause-next c = λ chunks left. left_none c.self.inside.rest.now chunks c.in-Err.ensures.none (rw (← c.self.view_is) at left)

pub returns-in-Err-clause-ended : goal.returns-in-Err-clause-ended
returns-in-Err-clause-ended c = rw (← c.self.view_is) (ended_lem c.self.inside.rest.now c.self.invariant.0 c.in-Err.ensures.none c.self.invariant.1)
