use Rattle.std.proofs.Common.{ap, sym, subst, ◌∙◌, arith, length}
use Rattle.sctp_fragments.specs.Runs.{from_rank}
use Rattle.sctp_fragments.specs.Held.{rank_of, bytes_of, intervals_of, NoneComplete}
use Rattle.sctp_fragments.specs.Interval.{held_of, lists_of}
use Rattle.sctp_fragments.specs.ReassemblyKey.{rank_at}
use Rattle.sctp_reassembly.specs.Places.{all_of}
use Rattle.sctp_reassembly.proofs.ListLemmas.{intervals_flat}
use Rattle.sctp_reassembly.proofs.LowLemmas.{leaves}
use Rattle.sctp_reassembly.proofs.interval_map.IntervalMap.drop_low.Goals as goal

pub all_sums_of-bytes-requires-clause-bytes : goal.all_sums_of-bytes-requires-clause-bytes
all_sums_of-bytes-requires-clause-bytes g c =
    let l = leaves (rank_at g.K.ReassemblyKey.number g.K.ReassemblyKey.index c.args.key) (lists_of (held_of g.K.ReassemblyKey.number g.K.ReassemblyKey.index) (all_of c.self.inside.first c.self.inside.later.entries)) (lists_of (held_of g.K.ReassemblyKey.number g.K.ReassemblyKey.index) (all_of c.in-Some.low.first c.in-Some.low.later.entries)) (lists_of (held_of g.K.ReassemblyKey.number g.K.ReassemblyKey.index) (all_of c.take_low.new.first c.take_low.new.later.entries)) c.self.invariant.kept.runs c.in-Some.ensures.taken c.in-Some.ensures.below in
    omega (arith, l.bytes, c.self.invariant.kept.counted, c.self.ranges)

pub all_sums_of-bytes-requires-clause-fragments : goal.all_sums_of-bytes-requires-clause-fragments
all_sums_of-bytes-requires-clause-fragments g c =
    let l = leaves (rank_at g.K.ReassemblyKey.number g.K.ReassemblyKey.index c.args.key) (lists_of (held_of g.K.ReassemblyKey.number g.K.ReassemblyKey.index) (all_of c.self.inside.first c.self.inside.later.entries)) (lists_of (held_of g.K.ReassemblyKey.number g.K.ReassemblyKey.index) (all_of c.in-Some.low.first c.in-Some.low.later.entries)) (lists_of (held_of g.K.ReassemblyKey.number g.K.ReassemblyKey.index) (all_of c.take_low.new.first c.take_low.new.later.entries)) c.self.invariant.kept.runs c.in-Some.ensures.taken c.in-Some.ensures.below in
    omega (arith, l.fragments, c.self.invariant.counted, c.self.ranges)

pub overflow_sub-self : goal.overflow_sub-self
overflow_sub-self g c =
    let l = leaves (rank_at g.K.ReassemblyKey.number g.K.ReassemblyKey.index c.args.key) (lists_of (held_of g.K.ReassemblyKey.number g.K.ReassemblyKey.index) (all_of c.self.inside.first c.self.inside.later.entries)) (lists_of (held_of g.K.ReassemblyKey.number g.K.ReassemblyKey.index) (all_of c.in-Some.low.first c.in-Some.low.later.entries)) (lists_of (held_of g.K.ReassemblyKey.number g.K.ReassemblyKey.index) (all_of c.take_low.new.first c.take_low.new.later.entries)) c.self.invariant.kept.runs c.in-Some.ensures.taken c.in-Some.ensures.below in
    omega (arith, l.bytes, c.self.invariant.kept.counted, c.all_sums_of-bytes.ensures.bytes)

pub overflow_sub-self-2 : goal.overflow_sub-self-2
overflow_sub-self-2 g c =
    let l = leaves (rank_at g.K.ReassemblyKey.number g.K.ReassemblyKey.index c.args.key) (lists_of (held_of g.K.ReassemblyKey.number g.K.ReassemblyKey.index) (all_of c.self.inside.first c.self.inside.later.entries)) (lists_of (held_of g.K.ReassemblyKey.number g.K.ReassemblyKey.index) (all_of c.in-Some.low.first c.in-Some.low.later.entries)) (lists_of (held_of g.K.ReassemblyKey.number g.K.ReassemblyKey.index) (all_of c.take_low.new.first c.take_low.new.later.entries)) c.self.invariant.kept.runs c.in-Some.ensures.taken c.in-Some.ensures.below in
    omega (arith, l.fragments, c.self.invariant.counted, c.all_sums_of-bytes.ensures.fragments)

pub invariant_of-self-2 : goal.invariant_of-self-2
invariant_of-self-2 g c =
    let l = leaves (rank_at g.K.ReassemblyKey.number g.K.ReassemblyKey.index c.args.key) (lists_of (held_of g.K.ReassemblyKey.number g.K.ReassemblyKey.index) (all_of c.self.inside.first c.self.inside.later.entries)) (lists_of (held_of g.K.ReassemblyKey.number g.K.ReassemblyKey.index) (all_of c.in-Some.low.first c.in-Some.low.later.entries)) (lists_of (held_of g.K.ReassemblyKey.number g.K.ReassemblyKey.index) (all_of c.take_low.new.first c.take_low.new.later.entries)) c.self.invariant.kept.runs c.in-Some.ensures.taken c.in-Some.ensures.below in
    record {
      kept = record {
        runs = l.runs;
        named = c.take_low.ensures.named;
        led = c.take_low.ensures.led;
        counted = omega (arith, l.bytes, c.self.invariant.kept.counted, c.all_sums_of-bytes.ensures.bytes);
        small = l.small c.self.invariant.kept.small;
      };
      counted = omega (arith, l.fragments, c.self.invariant.counted, c.all_sums_of-bytes.ensures.fragments);
    }

pub returns-clause-same : goal.returns-clause-same
returns-clause-same g c =
    let l = leaves (rank_at g.K.ReassemblyKey.number g.K.ReassemblyKey.index c.args.key) (lists_of (held_of g.K.ReassemblyKey.number g.K.ReassemblyKey.index) (all_of c.self.inside.first c.self.inside.later.entries)) (lists_of (held_of g.K.ReassemblyKey.number g.K.ReassemblyKey.index) (all_of c.in-Some.low.first c.in-Some.low.later.entries)) (lists_of (held_of g.K.ReassemblyKey.number g.K.ReassemblyKey.index) (all_of c.take_low.new.first c.take_low.new.later.entries)) c.self.invariant.kept.runs c.in-Some.ensures.taken c.in-Some.ensures.below in
    l.same ∙ ap (from_rank rank_of (rank_at g.K.ReassemblyKey.number g.K.ReassemblyKey.index c.args.key)) c.self.view_is

pub returns-clause-others : goal.returns-clause-others
returns-clause-others g c h =
    let l = leaves (rank_at g.K.ReassemblyKey.number g.K.ReassemblyKey.index c.args.key) (lists_of (held_of g.K.ReassemblyKey.number g.K.ReassemblyKey.index) (all_of c.self.inside.first c.self.inside.later.entries)) (lists_of (held_of g.K.ReassemblyKey.number g.K.ReassemblyKey.index) (all_of c.in-Some.low.first c.in-Some.low.later.entries)) (lists_of (held_of g.K.ReassemblyKey.number g.K.ReassemblyKey.index) (all_of c.take_low.new.first c.take_low.new.later.entries)) c.self.invariant.kept.runs c.in-Some.ensures.taken c.in-Some.ensures.below in
    subst NoneComplete (sym (intervals_flat (lists_of (held_of g.K.ReassemblyKey.number g.K.ReassemblyKey.index) (all_of c.take_low.new.first c.take_low.new.later.entries)) l.runs)) (l.none (subst NoneComplete (intervals_flat (lists_of (held_of g.K.ReassemblyKey.number g.K.ReassemblyKey.index) (all_of c.self.inside.first c.self.inside.later.entries)) c.self.invariant.kept.runs) (subst (λ t. NoneComplete (intervals_of t)) (sym c.self.view_is) h)))

pub returns-clause-bytes : goal.returns-clause-bytes
returns-clause-bytes g c =
    let l = leaves (rank_at g.K.ReassemblyKey.number g.K.ReassemblyKey.index c.args.key) (lists_of (held_of g.K.ReassemblyKey.number g.K.ReassemblyKey.index) (all_of c.self.inside.first c.self.inside.later.entries)) (lists_of (held_of g.K.ReassemblyKey.number g.K.ReassemblyKey.index) (all_of c.in-Some.low.first c.in-Some.low.later.entries)) (lists_of (held_of g.K.ReassemblyKey.number g.K.ReassemblyKey.index) (all_of c.take_low.new.first c.take_low.new.later.entries)) c.self.invariant.kept.runs c.in-Some.ensures.taken c.in-Some.ensures.below in
    omega (arith, l.bytes, ap bytes_of c.self.view_is)

pub returns-clause-fragments : goal.returns-clause-fragments
returns-clause-fragments g c =
    let l = leaves (rank_at g.K.ReassemblyKey.number g.K.ReassemblyKey.index c.args.key) (lists_of (held_of g.K.ReassemblyKey.number g.K.ReassemblyKey.index) (all_of c.self.inside.first c.self.inside.later.entries)) (lists_of (held_of g.K.ReassemblyKey.number g.K.ReassemblyKey.index) (all_of c.in-Some.low.first c.in-Some.low.later.entries)) (lists_of (held_of g.K.ReassemblyKey.number g.K.ReassemblyKey.index) (all_of c.take_low.new.first c.take_low.new.later.entries)) c.self.invariant.kept.runs c.in-Some.ensures.taken c.in-Some.ensures.below in
    omega (arith, l.fragments, ap length c.self.view_is)
