use Rattle.std.proofs.Common.{ap, sym, subst, ◌∙◌, arith, length}
use Rattle.sctp_fragments.specs.Runs.{from_rank}
use Rattle.sctp_fragments.specs.Held.{rank_of, bytes_of, intervals_of, NoneComplete}
use Rattle.sctp_fragments.specs.Interval.{held_of, lists_of}
use Rattle.sctp_fragments.specs.ReassemblyKey.{rank_at}
use Rattle.sctp_reassembly.specs.Places.{all_of}
use Rattle.sctp_reassembly.proofs.ListLemmas.{drops, drops_none, intervals_flat}
use Rattle.sctp_reassembly.proofs.TurnLemmas.{indexed_first}
use Rattle.sctp_reassembly.proofs.CountLemmas.{counts_first}
use Rattle.sctp_reassembly.proofs.interval_map.IntervalMap.drop_before.Goals as goal

pub overflow_sub-self : goal.overflow_sub-self
overflow_sub-self g c =
    let old = lists_of (held_of g.K.ReassemblyKey.number g.K.ReassemblyKey.index) (all_of c.loop-key.self-inside.first c.loop-key.self-inside.later.entries) in
    let new = lists_of (held_of g.K.ReassemblyKey.number g.K.ReassemblyKey.index) (all_of c.drop_first-bytes.new.first c.drop_first-bytes.new.later.entries) in
    let below = c.begins_below.ensures c.loop-key.self-inside.later.entries c.loop-key.invariant.listed.kept.led in
    let d = drops (held_of g.K.ReassemblyKey.number g.K.ReassemblyKey.index) old new (rank_at g.K.ReassemblyKey.number g.K.ReassemblyKey.index c.args.key) c.drop_first-bytes.result c.loop-key.invariant.listed.kept.runs (sym below ∙ c.loop-key-test.true) c.drop_first-bytes.ensures.value in
    omega (arith, d.counted, c.loop-key.invariant.listed.kept.counted)

pub overflow_sub-self-in-loop-key : goal.overflow_sub-self-in-loop-key
overflow_sub-self-in-loop-key g c =
    let old = lists_of (held_of g.K.ReassemblyKey.number g.K.ReassemblyKey.index) (all_of c.loop-key.self-inside.first c.loop-key.self-inside.later.entries) in
    let new = lists_of (held_of g.K.ReassemblyKey.number g.K.ReassemblyKey.index) (all_of c.drop_first-bytes.new.first c.drop_first-bytes.new.later.entries) in
    let below = c.begins_below.ensures c.loop-key.self-inside.later.entries c.loop-key.invariant.listed.kept.led in
    let one = counts_first old new (rank_at g.K.ReassemblyKey.number g.K.ReassemblyKey.index c.args.key) c.drop_first-bytes.result c.loop-key.invariant.listed.kept.runs (sym below ∙ c.loop-key-test.true) c.drop_first-bytes.ensures.value in
    omega (arith, one, c.loop-key.invariant.listed.counted)

pub loop-key-preserved : goal.loop-key-preserved
loop-key-preserved g c =
    let old = lists_of (held_of g.K.ReassemblyKey.number g.K.ReassemblyKey.index) (all_of c.loop-key.self-inside.first c.loop-key.self-inside.later.entries) in
    let new = lists_of (held_of g.K.ReassemblyKey.number g.K.ReassemblyKey.index) (all_of c.drop_first-bytes.new.first c.drop_first-bytes.new.later.entries) in
    let below = c.begins_below.ensures c.loop-key.self-inside.later.entries c.loop-key.invariant.listed.kept.led in
    let on = sym below ∙ c.loop-key-test.true in
    let d = drops (held_of g.K.ReassemblyKey.number g.K.ReassemblyKey.index) old new (rank_at g.K.ReassemblyKey.number g.K.ReassemblyKey.index c.args.key) c.drop_first-bytes.result c.loop-key.invariant.listed.kept.runs on c.drop_first-bytes.ensures.value in
    let one = counts_first old new (rank_at g.K.ReassemblyKey.number g.K.ReassemblyKey.index c.args.key) c.drop_first-bytes.result c.loop-key.invariant.listed.kept.runs on c.drop_first-bytes.ensures.value in
    record {
      listed = record {
        kept = record {
          runs = d.runs;
          named = c.drop_first-bytes.ensures.named c.loop-key.invariant.listed.kept.named;
          led = c.drop_first-bytes.ensures.led;
          counted = omega (arith, d.counted, c.loop-key.invariant.listed.kept.counted);
          small = indexed_first old new (rank_at g.K.ReassemblyKey.number g.K.ReassemblyKey.index c.args.key) c.drop_first-bytes.result c.loop-key.invariant.listed.kept.runs on c.drop_first-bytes.ensures.value c.loop-key.invariant.listed.kept.small;
        };
        counted = omega (arith, one, c.loop-key.invariant.listed.counted);
      };
      same = d.same ∙ c.loop-key.invariant.same;
      fewer = omega (arith, d.counted, c.loop-key.invariant.fewer);
      fewer_fragments = omega (arith, one, c.loop-key.invariant.fewer_fragments);
      none = λ h. d.none (c.loop-key.invariant.none h);
    }

pub loop-key-smaller : goal.loop-key-smaller
loop-key-smaller g c =
    let old = lists_of (held_of g.K.ReassemblyKey.number g.K.ReassemblyKey.index) (all_of c.loop-key.self-inside.first c.loop-key.self-inside.later.entries) in
    let new = lists_of (held_of g.K.ReassemblyKey.number g.K.ReassemblyKey.index) (all_of c.drop_first-bytes.new.first c.drop_first-bytes.new.later.entries) in
    let below = c.begins_below.ensures c.loop-key.self-inside.later.entries c.loop-key.invariant.listed.kept.led in
    let d = drops (held_of g.K.ReassemblyKey.number g.K.ReassemblyKey.index) old new (rank_at g.K.ReassemblyKey.number g.K.ReassemblyKey.index c.args.key) c.drop_first-bytes.result c.loop-key.invariant.listed.kept.runs (sym below ∙ c.loop-key-test.true) c.drop_first-bytes.ensures.value in
    d.smaller

pub loop-key-init : goal.loop-key-init
loop-key-init g c = record {
  listed = c.self.invariant;
  same = ap (from_rank rank_of (rank_at g.K.ReassemblyKey.number g.K.ReassemblyKey.index c.args.key)) c.self.view_is;
  fewer = omega (arith, ap bytes_of c.self.view_is);
  fewer_fragments = omega (arith, ap length c.self.view_is);
  none = λ h. subst NoneComplete (intervals_flat (lists_of (held_of g.K.ReassemblyKey.number g.K.ReassemblyKey.index) (all_of c.self.inside.first c.self.inside.later.entries)) c.self.invariant.kept.runs) (subst (λ t. NoneComplete (intervals_of t)) (sym c.self.view_is) h);
}

pub returns-clause-value : goal.returns-clause-value
returns-clause-value g c =
    let old = lists_of (held_of g.K.ReassemblyKey.number g.K.ReassemblyKey.index) (all_of c.loop-key.self-inside.first c.loop-key.self-inside.later.entries) in
    let below = c.begins_below.ensures c.loop-key.self-inside.later.entries c.loop-key.invariant.listed.kept.led in
    drops_none (held_of g.K.ReassemblyKey.number g.K.ReassemblyKey.index) old (rank_at g.K.ReassemblyKey.number g.K.ReassemblyKey.index c.args.key) c.loop-key.invariant.listed.kept.runs (sym below ∙ c.loop-key-test.false) ∙ c.loop-key.invariant.same

pub returns-clause-others : goal.returns-clause-others
returns-clause-others g c h =
    subst NoneComplete (sym (intervals_flat (lists_of (held_of g.K.ReassemblyKey.number g.K.ReassemblyKey.index) (all_of c.loop-key.self-inside.first c.loop-key.self-inside.later.entries)) c.loop-key.invariant.listed.kept.runs)) (c.loop-key.invariant.none h)
