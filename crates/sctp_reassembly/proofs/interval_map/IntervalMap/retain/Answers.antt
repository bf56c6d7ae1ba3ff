use Rattle.std.proofs.Common.{◌≡◌, ap, sym, subst, ◌∙◌, rules}
use Rattle.sctp_fragments.specs.Runs.{from_rank}
use Rattle.sctp_fragments.specs.Held.{rank_of, intervals_of, NonePass}
use Rattle.sctp_fragments.specs.ReassemblyKey.{rank_at}
use Rattle.sctp_fragments.specs.Interval.{held_of, lists_of}
use Rattle.sctp_reassembly.specs.Places.{all_of}
use Rattle.sctp_reassembly.proofs.DroppedLemmas.{drops_all, none_stays}
use Rattle.sctp_reassembly.proofs.interval_map.IntervalMap.retain.Goals as goal

pub returns-then-ends_below-clause-value : goal.returns-then-ends_below-clause-value
returns-then-ends_below-clause-value g c =
    let n = rank_at g.K.ReassemblyKey.number g.K.ReassemblyKey.index c.args.key in
    let gone = drops_all n (lists_of (held_of g.K.ReassemblyKey.number g.K.ReassemblyKey.index) (all_of c.self.inside.first c.self.inside.later.entries)) c.self.invariant.kept.runs (c.ends_below.ensures c.if-ends_below.true) in
    c.new-then-ends_below.view_is ∙ (c.new.ensures ∙ sym (ap (from_rank rank_of n) (sym c.self.view_is) ∙ gone))

pub returns-then-ends_below-clause-stays : goal.returns-then-ends_below-clause-stays
returns-then-ends_below-clause-stays g c test only none = subst (λ hs. NonePass test (intervals_of hs)) (sym (c.new-then-ends_below.view_is ∙ c.new.ensures)) tt

pub returns-clause-stays : goal.returns-clause-stays
returns-clause-stays g c test only none =
    let m = rank_at g.K.ReassemblyKey.number g.K.ReassemblyKey.index c.args.key in
    let left : c.drop_before.new.self ≡ from_rank rank_of m c.args.self.now = c.drop_before.ensures.value ∙ (c.drop_low.ensures.same ∙ search rules) in
    none_stays test only m (lists_of (held_of g.K.ReassemblyKey.number g.K.ReassemblyKey.index) (all_of c.self.inside.first c.self.inside.later.entries)) c.args.self.now c.drop_before.new.self c.self.invariant.kept.runs c.self.view_is left none
