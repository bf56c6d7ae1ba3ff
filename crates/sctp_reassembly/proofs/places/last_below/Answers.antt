use Rattle.std.proofs.Common.{sym, ◌∙◌}
use Rattle.sctp_fragments.specs.ReassemblyKey.{rank_at}
use Rattle.sctp_reassembly.proofs.MapLemmas.{below_split}
use Rattle.sctp_reassembly.proofs.places.last_below.Goals as goal

pub returns-in-Some-clause-some : goal.returns-in-Some-clause-some
returns-in-Some-clause-some g c ps qs s =
    let below = below_split g.K.Ord.cmp g.K.ReassemblyKey.is_key (rank_at g.K.ReassemblyKey.number g.K.ReassemblyKey.index) g.met.K.ReassemblyKey.by_rank c.args.key c.known.ensures c.args.later.now.entries ps qs s in
    (_, sym below ∙ (sym (c.range.ensures.between tt) ∙ c.in-Some.ensures.steps))

pub returns-in-None-clause-none : goal.returns-in-None-clause-none
returns-in-None-clause-none g c ps qs s =
    let below = below_split g.K.Ord.cmp g.K.ReassemblyKey.is_key (rank_at g.K.ReassemblyKey.number g.K.ReassemblyKey.index) g.met.K.ReassemblyKey.by_rank c.args.key c.known.ensures c.args.later.now.entries ps qs s in
    sym below ∙ (sym (c.range.ensures.between tt) ∙ c.in-None.ensures.steps.0)
