use Rattle.std.proofs.Common.{◌≡◌, Some, ap, sym, ◌∙◌, arith}
use Rattle.sctp_reassembly.specs.ReassemblyStreams.{number_unless_far}
use Rattle.sctp_reassembly.specs.WireNumber.{nearest_of}
use Rattle.sctp_reassembly.proofs.SkipLemmas.{same_from}
use Rattle.sctp_reassembly.proofs.stream_map.forward_behind.Goals as goal

pub returns-clause-err : goal.returns-clause-err
returns-clause-err g c =
    let n = nearest_of c.args.number (g.S.ReassemblyStream.reading_point c.args.stream.now) in
    let some : number_unless_far n ≡ Some c.in-Some.number = ap (λ t. number_unless_far (nearest_of c.args.number t)) (sym c.reading_point.ensures.value) ∙ (sym c.near.ensures ∙ c.in-Some.is) in
    c.forward.ensures.err n (omega (arith, same_from n c.in-Some.number some, c.from_parts.ensures.number)) c.from_parts.ensures.index
