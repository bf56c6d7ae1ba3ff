use Rattle.sctp_handshake.proofs.OutlineLemmas.{goes_on}
use Rattle.sctp_handshake.proofs.validation.Outline.of.Goals as goal

pub loop-raw-preserved : goal.loop-raw-preserved
loop-raw-preserved c =
    λ chunks from.
    let was = c.loop-raw.invariant chunks from in
    let next = c.in-Some-next_chunk.ensures.next was.0 was.1 in (
      next.1,
      next.4,
      goes_on c.loop-raw.outline c.of_chunk.result _ next.0 was.0 next.1 chunks next.2 (c.of_chunk.ensures next.0 next.3) c.followed_by-outline.ensures was.2,
    )
