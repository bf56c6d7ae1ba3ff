use Rattle.std.proofs.Common.{[], refl, ap, sym, subst, ◌∙◌}
use Rattle.sctp_fragments.specs.Held.{intervals_of}
use Rattle.sctp_fragments.specs.Interval.{held_of, run_of}
use Rattle.sctp_fragments.specs.ReassemblyKey.{rank_at}
use Rattle.sctp_reassembly.specs.ListState.{held_in, IsListState}
use Rattle.sctp_reassembly.specs.Finished.{BeginsAt, IsNumbered}
use Rattle.sctp_reassembly.proofs.ListLemmas.{none_there}
use Rattle.sctp_reassembly.proofs.ListStateLemmas.{lone_is}
use Rattle.sctp_reassembly.proofs.FinishedLemmas.{some_there, incomplete_there}
use Rattle.sctp_reassembly.proofs.interval_list.IntervalList.finished_at.Goals as goal

pub returns-in-Empty-clause-none : goal.returns-in-Empty-clause-none
returns-in-Empty-clause-none g c front back r runs held =
    let view = sym (ap (held_in (held_of g.K.ReassemblyKey.number g.K.ReassemblyKey.index)) c.in-Empty.is) ∙ c.self.view_is in
    none_there (rank_at g.K.ReassemblyKey.number g.K.ReassemblyKey.index c.args.key) [] _ tt refl front back r (ap intervals_of view ∙ runs) held

pub returns-in-Lone-clause-some : goal.returns-in-Lone-clause-some
returns-in-Lone-clause-some g c =
    let lone = subst (IsListState g.K.ReassemblyKey.number g.K.ReassemblyKey.index) c.in-Lone.is c.self.invariant in
    let view = sym (ap (held_in (held_of g.K.ReassemblyKey.number g.K.ReassemblyKey.index)) c.in-Lone.is) ∙ c.self.view_is in
    some_there g.K.ReassemblyKey.number g.K.ReassemblyKey.index (rank_at g.K.ReassemblyKey.number g.K.ReassemblyKey.index c.args.key) c.args.self.now (run_of (held_of g.K.ReassemblyKey.number g.K.ReassemblyKey.index) c.in-Lone.interval) (λ front back r runs held. lone_is g.K.ReassemblyKey.number g.K.ReassemblyKey.index c.in-Lone.interval lone front back r (ap intervals_of view ∙ runs)) (λ k. BeginsAt (rank_at g.K.ReassemblyKey.number g.K.ReassemblyKey.index k)) c.begin_of.result c.begin_of.ensures.some

pub returns-in-Lone-clause-number : goal.returns-in-Lone-clause-number
returns-in-Lone-clause-number g c =
    let lone = subst (IsListState g.K.ReassemblyKey.number g.K.ReassemblyKey.index) c.in-Lone.is c.self.invariant in
    let view = sym (ap (held_in (held_of g.K.ReassemblyKey.number g.K.ReassemblyKey.index)) c.in-Lone.is) ∙ c.self.view_is in
    some_there g.K.ReassemblyKey.number g.K.ReassemblyKey.index (rank_at g.K.ReassemblyKey.number g.K.ReassemblyKey.index c.args.key) c.args.self.now (run_of (held_of g.K.ReassemblyKey.number g.K.ReassemblyKey.index) c.in-Lone.interval) (λ front back r runs held. lone_is g.K.ReassemblyKey.number g.K.ReassemblyKey.index c.in-Lone.interval lone front back r (ap intervals_of view ∙ runs)) (λ k. IsNumbered (g.K.ReassemblyKey.number k)) c.begin_of.result c.begin_of.ensures.number

pub returns-in-Lone-clause-none : goal.returns-in-Lone-clause-none
returns-in-Lone-clause-none g c =
    let lone = subst (IsListState g.K.ReassemblyKey.number g.K.ReassemblyKey.index) c.in-Lone.is c.self.invariant in
    let view = sym (ap (held_in (held_of g.K.ReassemblyKey.number g.K.ReassemblyKey.index)) c.in-Lone.is) ∙ c.self.view_is in
    incomplete_there g.K.ReassemblyKey.number g.K.ReassemblyKey.index (rank_at g.K.ReassemblyKey.number g.K.ReassemblyKey.index c.args.key) c.args.self.now (run_of (held_of g.K.ReassemblyKey.number g.K.ReassemblyKey.index) c.in-Lone.interval) (λ front back r runs held. lone_is g.K.ReassemblyKey.number g.K.ReassemblyKey.index c.in-Lone.interval lone front back r (ap intervals_of view ∙ runs)) c.begin_of.result c.begin_of.ensures.none
