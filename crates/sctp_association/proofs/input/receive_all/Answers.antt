use Rattle.std.proofs.Common.{◌∙◌, List, ◌∷◌, ap, sym, subst}
use Rattle.sctp_packet.specs.Chunk.{ChunkTree}
use Rattle.spec_endpoint.specs.Input.{receive_all}
use Rattle.sctp_endpoint.specs.Views.{endpoint_of, endpoint_state_of, state_of}
use Rattle.sctp_endpoint.proofs.GoesOnLemmas.{continues_through, continues_with}
use Rattle.sctp_association.specs.Interrupted.{StopsAmong}
use Rattle.sctp_association.proofs.InterruptedLemmas.{all_next, allowed, stops_first, stops_next, where_err}
use Rattle.sctp_association.proofs.input.receive_all.Goals as goal

pub loop-raw-preserved : goal.loop-raw-preserved
loop-raw-preserved g c =
    let tag = c.args.tag in
    let s = endpoint_of g.R.Rng.stream g.C.Checksum.word_of c.loop-raw.state c.loop-raw.context c.loop-raw.rng in
    let e = endpoint_of g.R.Rng.stream g.C.Checksum.word_of c.receive_in_place.new.state c.receive_in_place.new.context c.receive_in_place.new.rng in
    record {
      done = λ chunks from.
          let was = c.loop-raw.invariant.done chunks from in
          let next = c.in-Some.ensures.next was.0 was.1 in (
            next.1,
            next.4,
            all_next tag next.0 next.1 s e (allowed tag next.0 s e c.in_ok-receive_in_place.field-0 c.if-not-branch.false (c.in_ok-receive_in_place.ensures.ok next.0 next.3)) ∙ (ap (λ (left : List ChunkTree). receive_all tag left s) (sym next.2) ∙ was.2),
          );
      stops = λ chunks from.
          let was = c.loop-raw.invariant.stops chunks from in
          let next = c.in-Some.ensures.next was.0 was.1 in (
            next.1,
            next.4,
            λ now k. was.2 now (subst (λ (left : List ChunkTree). StopsAmong tag left s now) (sym next.2) (stops_next tag now next.0 next.1 s e (allowed tag next.0 s e c.in_ok-receive_in_place.field-0 c.if-not-branch.false (c.in_ok-receive_in_place.ensures.ok next.0 next.3)) k)),
          );
      goes_on = continues_through c.args.context.now c.loop-raw.context c.receive_in_place.new.context c.loop-raw.invariant.goes_on
          (continues_with c.loop-raw.context c.receive_in_place.new.context (state_of c.receive_in_place.new.state) c.receive_in_place.ensures.goes_on);
    }

pub returns-in_err-receive_in_place-clause-stops : goal.returns-in_err-receive_in_place-clause-stops
returns-in_err-receive_in_place-clause-stops g c =
    let tag = c.args.tag in
    let s = endpoint_of g.R.Rng.stream g.C.Checksum.word_of c.loop-raw.state c.loop-raw.context c.loop-raw.rng in
    let now = endpoint_state_of g.C.Checksum.word_of c.receive_in_place.new.state c.receive_in_place.new.context in
    λ chunks from.
    let was = c.loop-raw.invariant.stops chunks from in
    let next = c.in-Some.ensures.next was.0 was.1 in
    where_err c.from_residual.result (was.2 now (subst (λ (left : List ChunkTree). StopsAmong tag left s now) (sym next.2)
    (stops_first tag now (next.0 ∷ next.1) s (record { ready = c.in_err-receive_in_place.ensures.ready; held = c.receive_in_place.ensures.goes_on.held }))))
