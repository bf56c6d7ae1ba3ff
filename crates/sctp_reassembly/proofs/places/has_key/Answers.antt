use Rattle.sctp_fragments.specs.ReassemblyKey.{rank_at}
use Rattle.std.specs.Prelude.{nat_lt}
use Rattle.sctp_fragments.specs.Held.{rank_of}
use Rattle.sctp_fragments.specs.Interval.{held_of, run_of}
use Rattle.sctp_reassembly.proofs.HolderLemmas.{has_rank, both_tests, before_all}
use Rattle.sctp_reassembly.proofs.places.has_key.Goals as goal

pub returns-then-not-is_before : goal.returns-then-not-is_before
returns-then-not-is_before g c before rs all =
    let n = rank_at g.K.ReassemblyKey.number g.K.ReassemblyKey.index c.args.key in
    let d = held_of g.K.ReassemblyKey.number g.K.ReassemblyKey.index c.first.result.now in
    let e = held_of g.K.ReassemblyKey.number g.K.ReassemblyKey.index c.last.result.now in
    both_tests (nat_lt n (rank_of d)) (nat_lt (rank_of e) n) c.is_before.result c.is_before-then-not-is_before.result _ c.is_before.ensures c.if-not-is_before.true c.is_before-then-not-is_before.ensures (has_rank n before (run_of (held_of g.K.ReassemblyKey.number g.K.ReassemblyKey.index) c.args.interval.now) rs d e all c.first.ensures c.last.ensures)

pub returns-else-not-is_before : goal.returns-else-not-is_before
returns-else-not-is_before g c before rs all =
    before_all (rank_at g.K.ReassemblyKey.number g.K.ReassemblyKey.index c.args.key) before (run_of (held_of g.K.ReassemblyKey.number g.K.ReassemblyKey.index) c.args.interval.now) rs (held_of g.K.ReassemblyKey.number g.K.ReassemblyKey.index c.first.result.now) c.is_before.result all c.first.ensures c.is_before.ensures c.if-not-is_before.false
