use Rattle.std.proofs.Common.{ap}
use Rattle.std.specs.List.{slice_get}
use Rattle.sctp_reassembly.proofs.FinishedLemmas.{first_least, first_none}
use Rattle.sctp_reassembly.proofs.finished.first_from.Goals as goal

pub returns-in-Some-clause-some : goal.returns-in-Some-clause-some
returns-in-Some-clause-some g c = first_least g.K.ReassemblyKey.number g.K.ReassemblyKey.index g.K.Ord.cmp g.K.ReassemblyKey.is_key g.met.K.ReassemblyKey.by_rank c.args.key c.known.ensures c.args.keys.now _ c.in-Some.first.now c.requires.keys c.known-in-Some.ensures (c.range.ensures.in_range tt) (ap (λ xs. slice_get xs 0) c.in-Some.ensures.steps)

pub returns-in-None-clause-none : goal.returns-in-None-clause-none
returns-in-None-clause-none g c = first_none g.K.ReassemblyKey.number g.K.ReassemblyKey.index g.K.Ord.cmp g.K.ReassemblyKey.is_key g.met.K.ReassemblyKey.by_rank c.args.key c.known.ensures c.args.keys.now _ c.requires.keys (c.range.ensures.in_range tt) (c.in-None.ensures.steps.0)
