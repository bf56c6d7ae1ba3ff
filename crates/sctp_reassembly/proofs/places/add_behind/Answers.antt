use Rattle.std.proofs.Common.{◌∷◌, [], refl, ◌∙◌}
use Rattle.sctp_fragments.specs.Held.{rank_of}
use Rattle.sctp_fragments.specs.Interval.{held_of, run_of}
use Rattle.sctp_reassembly.specs.Places.{runs_at}
use Rattle.sctp_reassembly.proofs.PutLemmas.{runs_alone}
use Rattle.sctp_reassembly.proofs.AddedLemmas.{held_later, joins_last}
use Rattle.sctp_fragments.proofs.PlaceLemmas.{some_run}
use Rattle.sctp_reassembly.proofs.places.add_behind.Goals as goal

pub joined_to-requires-clause-runs : goal.joined_to-requires-clause-runs
joined_to-requires-clause-runs g c = runs_alone g.K.ReassemblyKey.is_key g.K.ReassemblyKey.number g.K.ReassemblyKey.index (run_of (held_of g.K.ReassemblyKey.number g.K.ReassemblyKey.index) c.args.first.now ∷ []) c.args.later.now.entries c.requires.runs

pub put-requires-clause-runs : goal.put-requires-clause-runs
put-requires-clause-runs g c = runs_alone g.K.ReassemblyKey.is_key g.K.ReassemblyKey.number g.K.ReassemblyKey.index (run_of (held_of g.K.ReassemblyKey.number g.K.ReassemblyKey.index) c.args.first.now ∷ []) c.args.later.now.entries c.requires.runs

pub returns-in_default-clause-ok : goal.returns-in_default-clause-ok
returns-in_default-clause-ok g c =
    (held_later g.K.ReassemblyKey.is_key g.K.ReassemblyKey.number g.K.ReassemblyKey.index (rank_of (held_of g.K.ReassemblyKey.number g.K.ReassemblyKey.index c.args.entry)) (run_of (held_of g.K.ReassemblyKey.number g.K.ReassemblyKey.index) c.args.first.now) (runs_at g.K.ReassemblyKey.number g.K.ReassemblyKey.index c.args.later.now.entries) c.in_default.ensures.none, (refl, c.requires.named))

pub extend_first-requires-clause-left : goal.extend_first-requires-clause-left
extend_first-requires-clause-left g c =
    let f = held_of g.K.ReassemblyKey.number g.K.ReassemblyKey.index in
    joins_last (run_of f c.args.first.now) (f c.last.result.now) (f c.args.entry) c.goes_on_to.result (some_run f c.args.first.now) c.last.ensures c.goes_on_to.ensures ∙ c.if-goes_on_to.true

pub returns-clause-ok : goal.returns-clause-ok
returns-clause-ok g c =
    let f = held_of g.K.ReassemblyKey.number g.K.ReassemblyKey.index in
    c.in_ok-put.ensures.ok (run_of f c.args.first.now) c.requires.runs c.requires.behind
    (joins_last (run_of f c.args.first.now) (f c.last.result.now) (f c.args.entry) c.goes_on_to.result (some_run f c.args.first.now) c.last.ensures c.goes_on_to.ensures ∙ c.if-goes_on_to.false)
