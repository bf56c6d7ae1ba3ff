use Rattle.std.proofs.Common.{◌≤◌, sym, subst, length}
use Rattle.sctp_fragments.specs.Interval.{held_of, entries_of}
use Rattle.sctp_reassembly.specs.Places.{all_of}
use Rattle.sctp_reassembly.specs.Listed.{IsListed}
use Rattle.sctp_reassembly.proofs.ListStateLemmas.{none_later, nothing_listed}
use Rattle.sctp_reassembly.proofs.interval_map.IntervalMap.take_few.Goals as goal

pub invariant_of-self : goal.invariant_of-self
invariant_of-self g c =
    let few : length (entries_of (held_of g.K.ReassemblyKey.number g.K.ReassemblyKey.index) (all_of c.self.inside.first c.self.inside.later.entries)) ≤ 1 = subst (λ t. length t ≤ 1) (sym c.self.view_is) c.requires in
    let none = none_later (held_of g.K.ReassemblyKey.number g.K.ReassemblyKey.index) c.self.inside.first c.self.inside.later.entries c.self.invariant.kept.led few in
    subst (λ first. IsListed g.K.ReassemblyKey.is_key g.K.ReassemblyKey.number g.K.ReassemblyKey.index first c.self.inside.later.entries 0 0) (sym c.take.ensures.after)
    (nothing_listed g.K.ReassemblyKey.is_key g.K.ReassemblyKey.number g.K.ReassemblyKey.index c.self.inside.later.entries none)
