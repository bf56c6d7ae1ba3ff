use Rattle.std.proofs.Common.{ap, ◌∙◌}
use Rattle.sctp_reassembly.proofs.MapLemmas.{read_there, not_absent}
use Rattle.sctp_fragments.specs.Entries.{size_of}
use Rattle.sctp_reassembly.proofs.places.size_at.Goals as goal

pub returns-in-Some : goal.returns-in-Some
returns-in-Some g c ps qs i is low =
    c.size.ensures ∙ ap (λ t. size_of t.entries.value) (read_there g.K.Ord.cmp g.K.ReassemblyKey.is_key g.K.ReassemblyKey.number g.K.ReassemblyKey.index g.met.K.ReassemblyKey.by_rank c.args.place c.known.ensures c.args.later.now.entries ps qs i is low c.in-Some.interval.now c.in-Some.ensures.value)

pub returns-in-None : goal.returns-in-None
returns-in-None g c ps qs i is low = not_absent g.K.Ord.cmp g.K.ReassemblyKey.is_key g.K.ReassemblyKey.number g.K.ReassemblyKey.index g.met.K.ReassemblyKey.by_rank c.args.place c.known.ensures c.args.later.now.entries ps qs i is low c.in-None.ensures.value
