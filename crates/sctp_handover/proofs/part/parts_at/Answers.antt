use Rattle.std.proofs.Common.{[], ◌∷◌, map, ap, ◌∙◌, arith}
use Rattle.std.proofs.lemmas.List.{map-append}
use Rattle.sctp_handover.proofs.PartLemmas.{all_of, goes_on, one_more}
use Rattle.sctp_handover.proofs.part.parts_at.Goals as goal

pub returns-then-after-rest : goal.returns-then-after-rest
returns-then-after-rest g c = λ xs after ec all e.
    let inv = c.loop-place.invariant xs after ec all e in
    let less = goes_on g.P.Part.bytes_of g.met.P.Part.has_bytes g.P.Part.Fits xs after c.loop-place.rest.now c.in_ok-part.after.now c.loop-place.place (g.P.Part.value_of c.in_ok-part.part)
    all (omega (arith, ec, c.loop-place-test.true)) inv.1 c.in_ok-part.ensures in
    absurd (omega (arith, less, c.if-after-rest.true))

pub loop-place-preserved : goal.loop-place-preserved
loop-place-preserved g c = λ xs after ec all e.
    let inv = c.loop-place.invariant xs after ec all e in
    let parts = c.loop-place.parts.items in
    let part = c.in_ok-part.part in
    let more = one_more g.P.Part.bytes_of g.P.Part.Fits xs after c.loop-place.rest.now c.in_ok-part.after.now c.loop-place.place (g.P.Part.value_of part)
    (map g.P.Part.value_of parts) all (omega (arith, ec, c.loop-place-test.true)) inv.0 inv.1 c.in_ok-part.ensures in
    (ap (map g.P.Part.value_of) c.in_ok-push.ensures.items ∙ map-append g.P.Part.value_of parts (part ∷ []) ∙ more.0, more.1)

pub returns : goal.returns
returns g c = λ xs after ec all e.
    let inv = c.loop-place.invariant xs after ec all e in
    all_of g.P.Part.bytes_of xs after c.loop-place.rest.now c.loop-place.place (map g.P.Part.value_of c.loop-place.parts.items)
    (omega (arith, ec, c.loop-place-test.false)) inv.0 inv.1
