use Rattle.std.proofs.Common.{None, sym, ◌∙◌}
use Rattle.sctp_fragments.specs.ReassemblyKey.{rank_at}
use Rattle.sctp_reassembly.specs.Places.{runs_at}
use Rattle.sctp_reassembly.proofs.HolderLemmas.{later_runs, runs_here, first_among, none_anywhere, found_later}
use Rattle.sctp_reassembly.proofs.places.interval_with.Goals as goal

pub returns-then-has_key-clause-some : goal.returns-then-has_key-clause-some
returns-then-has_key-clause-some g c =
    let n = rank_at g.K.ReassemblyKey.number g.K.ReassemblyKey.index c.args.key in
    first_among g.K.ReassemblyKey.is_key g.K.ReassemblyKey.number g.K.ReassemblyKey.index n c.args.first.now c.args.later.now.entries c.in-Some.interval c.in-Some.is c.requires.runs (sym (c.has_key.ensures None (runs_at g.K.ReassemblyKey.number g.K.ReassemblyKey.index c.args.later.now.entries) (runs_here g.K.ReassemblyKey.is_key g.K.ReassemblyKey.number g.K.ReassemblyKey.index n c.args.first.now c.args.later.now.entries c.in-Some.interval c.in-Some.is c.requires.runs)) ∙ c.if-has_key.true)

pub found_with-requires-clause-runs : goal.found_with-requires-clause-runs
found_with-requires-clause-runs g c = later_runs g.K.ReassemblyKey.is_key g.K.ReassemblyKey.number g.K.ReassemblyKey.index c.args.first.now c.args.later.now.entries c.requires.led c.requires.runs

pub returns-in-Some-found_with-clause-some : goal.returns-in-Some-found_with-clause-some
returns-in-Some-found_with-clause-some g c =
    let n = rank_at g.K.ReassemblyKey.number g.K.ReassemblyKey.index c.args.key in
    let found = c.in-Some-found_with.ensures.some in
    found_later g.K.ReassemblyKey.is_key g.K.ReassemblyKey.number g.K.ReassemblyKey.index n c.args.first.now c.args.later.now.entries c.in-Some.interval c.in-Some.is c.requires.runs _ found.0 _ found.1

pub returns-in-None-clause-none : goal.returns-in-None-clause-none
returns-in-None-clause-none g c =
    let n = rank_at g.K.ReassemblyKey.number g.K.ReassemblyKey.index c.args.key in
    none_anywhere g.K.ReassemblyKey.is_key g.K.ReassemblyKey.number g.K.ReassemblyKey.index n c.args.first.now c.args.later.now.entries c.in-Some.interval c.in-Some.is c.requires.runs (sym (c.has_key.ensures None (runs_at g.K.ReassemblyKey.number g.K.ReassemblyKey.index c.args.later.now.entries) (runs_here g.K.ReassemblyKey.is_key g.K.ReassemblyKey.number g.K.ReassemblyKey.index n c.args.first.now c.args.later.now.entries c.in-Some.interval c.in-Some.is c.requires.runs)) ∙ c.if-has_key.false) c.in-None.ensures.none
