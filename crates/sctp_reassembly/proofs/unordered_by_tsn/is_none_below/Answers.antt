use Rattle.std.proofs.Common.{arith, ap}
use Rattle.std.specs.Prelude.{is_some}
use Rattle.std.proofs.lemmas.Bool.{leb-true}
use Rattle.sctp_reassembly.proofs.NoteLemmas.{not_above, by_tsn}
use Rattle.sctp_reassembly.proofs.unordered_by_tsn.is_none_below.Goals as goal

pub returns-in-Some : goal.returns-in-Some
returns-in-Some c is note there =
    let least = leb-true c.args.index c.in-Some.least.now is in
    let l = not_above c.in-Some.least.now note.0 (c.in-Some.ensures.least note.0 (ap is_some there)) in
    by_tsn c.args.index note.0 (omega (arith, l, least))
