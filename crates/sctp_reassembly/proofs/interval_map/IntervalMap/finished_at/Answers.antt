use Rattle.std.proofs.Common.{ap, ◌∙◌}
use Rattle.sctp_fragments.specs.Held.{intervals_of}
use Rattle.sctp_fragments.specs.Interval.{held_of, run_of, lists_of}
use Rattle.sctp_fragments.specs.ReassemblyKey.{rank_at}
use Rattle.sctp_reassembly.specs.Places.{all_of}
use Rattle.sctp_reassembly.specs.Finished.{BeginsAt, IsNumbered}
use Rattle.sctp_reassembly.proofs.ListLemmas.{run_there, none_there}
use Rattle.sctp_reassembly.proofs.FinishedLemmas.{some_there, incomplete_there}
use Rattle.sctp_reassembly.proofs.interval_map.IntervalMap.finished_at.Goals as goal

pub returns-in-None-clause-none : goal.returns-in-None-clause-none
returns-in-None-clause-none g c front back r runs held =
    none_there (rank_at g.K.ReassemblyKey.number g.K.ReassemblyKey.index c.args.key) (lists_of (held_of g.K.ReassemblyKey.number g.K.ReassemblyKey.index) (all_of c.self.inside.first c.self.inside.later.entries)) _ c.self.invariant.kept.runs c.in-None.ensures.none front back r (ap intervals_of c.self.view_is ∙ runs) held

pub returns-in-Some-clause-some : goal.returns-in-Some-clause-some
returns-in-Some-clause-some g c =
    let n = rank_at g.K.ReassemblyKey.number g.K.ReassemblyKey.index c.args.key in
    let run = run_of (held_of g.K.ReassemblyKey.number g.K.ReassemblyKey.index) c.in-Some.interval.now in
    some_there g.K.ReassemblyKey.number g.K.ReassemblyKey.index n c.args.self.now run (λ front back r runs held. run_there n (lists_of (held_of g.K.ReassemblyKey.number g.K.ReassemblyKey.index) (all_of c.self.inside.first c.self.inside.later.entries)) run c.self.invariant.kept.runs c.in-Some.ensures.some front back r (ap intervals_of c.self.view_is ∙ runs) held) (λ k. BeginsAt (rank_at g.K.ReassemblyKey.number g.K.ReassemblyKey.index k)) c.begin_of.result c.begin_of.ensures.some

pub returns-in-Some-clause-number : goal.returns-in-Some-clause-number
returns-in-Some-clause-number g c =
    let n = rank_at g.K.ReassemblyKey.number g.K.ReassemblyKey.index c.args.key in
    let run = run_of (held_of g.K.ReassemblyKey.number g.K.ReassemblyKey.index) c.in-Some.interval.now in
    some_there g.K.ReassemblyKey.number g.K.ReassemblyKey.index n c.args.self.now run (λ front back r runs held. run_there n (lists_of (held_of g.K.ReassemblyKey.number g.K.ReassemblyKey.index) (all_of c.self.inside.first c.self.inside.later.entries)) run c.self.invariant.kept.runs c.in-Some.ensures.some front back r (ap intervals_of c.self.view_is ∙ runs) held) (λ k. IsNumbered (g.K.ReassemblyKey.number k)) c.begin_of.result c.begin_of.ensures.number

pub returns-in-Some-clause-none : goal.returns-in-Some-clause-none
returns-in-Some-clause-none g c =
    let n = rank_at g.K.ReassemblyKey.number g.K.ReassemblyKey.index c.args.key in
    let run = run_of (held_of g.K.ReassemblyKey.number g.K.ReassemblyKey.index) c.in-Some.interval.now in
    incomplete_there g.K.ReassemblyKey.number g.K.ReassemblyKey.index n c.args.self.now run (λ front back r runs held. run_there n (lists_of (held_of g.K.ReassemblyKey.number g.K.ReassemblyKey.index) (all_of c.self.inside.first c.self.inside.later.entries)) run c.self.invariant.kept.runs c.in-Some.ensures.some front back r (ap intervals_of c.self.view_is ∙ runs) held) c.begin_of.result c.begin_of.ensures.none
