use Rattle.std.proofs.Common.{sym, subst}
use Rattle.sctp_fragments.specs.Held.{intervals_of}
use Rattle.sctp_fragments.specs.Interval.{held_of, lists_of}
use Rattle.sctp_reassembly.specs.Places.{all_of}
use Rattle.sctp_reassembly.specs.Finished.{NoneMissed}
use Rattle.sctp_reassembly.proofs.ListLemmas.{intervals_flat}
use Rattle.sctp_reassembly.proofs.interval_map.IntervalMap.finished.Goals as goal

pub returns : goal.returns
returns g c =
    subst (λ hs. NoneMissed g.K.ReassemblyKey.number g.K.ReassemblyKey.index 0 c.of.result (intervals_of hs)) c.self.view_is
    (subst (NoneMissed g.K.ReassemblyKey.number g.K.ReassemblyKey.index 0 c.of.result) (sym (intervals_flat (lists_of (held_of g.K.ReassemblyKey.number g.K.ReassemblyKey.index) (all_of c.self.inside.first c.self.inside.later.entries)) c.self.invariant.kept.runs)) c.of.ensures)
