use Rattle.std.proofs.Common.{◌≡◌, length, false, ap, arith, rules}
use Rattle.std.specs.Prelude.{is_none}
use Rattle.sctp_fragments.specs.Held.{intervals_of}
use Rattle.sctp_fragments.specs.Interval.{held_of}
use Rattle.sctp_reassembly.proofs.ListLemmas.{len_kept}
use Rattle.sctp_reassembly.proofs.interval_map.IntervalMap.len.Goals as goal

pub returns : goal.returns
returns g c =
    let some : is_none c.self.inside.first ≡ false = search rules in
    let all = len_kept (held_of g.K.ReassemblyKey.number g.K.ReassemblyKey.index) c.self.inside.first c.self.inside.later.entries some c.self.invariant.kept.runs in
    omega (arith, all, c.len.ensures.len, ap (λ t. length (intervals_of t)) c.self.view_is)
