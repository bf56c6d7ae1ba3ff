use Rattle.std.proofs.Common.{ap, sym, ◌∙◌}
use Rattle.sctp_packet.specs.Views.{raw_chunk}
use Rattle.spec_endpoint.specs.Input.{has_more_counted}
use Rattle.sctp_handshake.proofs.OutlineLemmas.{passed_over}
use Rattle.sctp_handshake.proofs.validation.has_more_counted.Goals as goal

pub loop-raw-preserved : goal.loop-raw-preserved
loop-raw-preserved c =
    λ chunks from.
    let was = c.loop-raw.invariant chunks from in
    let next = c.in-Some.ensures.next was.0 was.1 in
    let over = passed_over c.loop-raw.room (raw_chunk c.in-Some.raw) next.0 next.1 next.3 (sym c.is_counted.ensures ∙ c.if-is_counted.false) in
    (next.1, next.4, sym over ∙ (ap (has_more_counted c.loop-raw.room) (sym next.2) ∙ was.2))
