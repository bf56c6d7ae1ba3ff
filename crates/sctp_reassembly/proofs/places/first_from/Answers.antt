use Rattle.std.proofs.Common.{sym, ◌∙◌}
use Rattle.sctp_fragments.specs.ReassemblyKey.{rank_at}
use Rattle.sctp_reassembly.proofs.MapLemmas.{from_split}
use Rattle.sctp_reassembly.proofs.places.first_from.Goals as goal

pub returns-in-Some-clause-some : goal.returns-in-Some-clause-some
returns-in-Some-clause-some g c ps qs s =
    let from = from_split g.K.Ord.cmp g.K.ReassemblyKey.is_key (rank_at g.K.ReassemblyKey.number g.K.ReassemblyKey.index) g.met.K.ReassemblyKey.by_rank c.args.key c.known.ensures c.args.later.now.entries ps qs s in
    (_, sym from ∙ (sym (c.range.ensures.between tt) ∙ c.in-Some.ensures.steps))

pub returns-in-None-clause-none : goal.returns-in-None-clause-none
returns-in-None-clause-none g c ps qs s =
    let from = from_split g.K.Ord.cmp g.K.ReassemblyKey.is_key (rank_at g.K.ReassemblyKey.number g.K.ReassemblyKey.index) g.met.K.ReassemblyKey.by_rank c.args.key c.known.ensures c.args.later.now.entries ps qs s in
    sym from ∙ (sym (c.range.ensures.between tt) ∙ c.in-None.ensures.steps.0)
