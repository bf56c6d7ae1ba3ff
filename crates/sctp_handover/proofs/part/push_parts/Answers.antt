use Rattle.std.proofs.Common.{append-nil, sym}
use Rattle.std.proofs.lemmas.List.Elements.{All-nil}
use Rattle.sctp_handover.proofs.PartLemmas.{fit_on, parts_fit, parts_written, written_on}
use Rattle.sctp_handover.proofs.part.push_parts.Goals as goal

pub loop-part-init : goal.loop-part-init
loop-part-init g c = record { wrote = sym (append-nil c.args.output.now.items); fits = All-nil g.P.Part.Fits }

pub loop-part-preserved : goal.loop-part-preserved
loop-part-preserved g c =
    let parts = c.args.parts.now in
    let i = c.loop-part.part-index in
    record {
      wrote = written_on g.P.Part.value_of g.P.Part.bytes_of parts i c.part-item.result _ _ _ c.loop-part-test.true c.part-item.is c.loop-part.invariant.wrote c.in_ok-push_to.ensures.wrote;
      fits = fit_on g.P.Part.value_of g.P.Part.Fits parts i c.part-item.result c.loop-part-test.true c.part-item.is c.loop-part.invariant.fits c.in_ok-push_to.ensures.fits;
    }

pub returns-clause-wrote : goal.returns-clause-wrote
returns-clause-wrote g c = parts_written g.P.Part.value_of g.P.Part.bytes_of c.args.parts.now c.loop-part.part-index _ _ c.loop-part-test.false c.loop-part.invariant.wrote

pub returns-clause-fits : goal.returns-clause-fits
returns-clause-fits g c = parts_fit g.P.Part.value_of g.P.Part.Fits c.args.parts.now c.loop-part.part-index c.loop-part-test.false c.loop-part.invariant.fits
