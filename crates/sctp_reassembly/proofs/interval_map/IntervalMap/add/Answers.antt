use Rattle.std.proofs.Common.{◌≡◌, true, false, not, ap, sym, subst, ◌∙◌, arith, rules, length}
use Rattle.sctp_fragments.specs.Runs.{is_held, with_item}
use Rattle.sctp_fragments.specs.Held.{rank_of, bytes_of, IsPlaced}
use Rattle.sctp_fragments.specs.ReassemblyKey.{rank_at}
use Rattle.sctp_fragments.specs.Interval.{held_of, as_held, lists_of, entries_of, AreIndexed}
use Rattle.sctp_reassembly.specs.Places.{all_of}
use Rattle.sctp_reassembly.proofs.ListLemmas.{answered}
use Rattle.sctp_reassembly.proofs.TurnLemmas.{with_indexed}
use Rattle.sctp_reassembly.proofs.CountLemmas.{counts_one, still_listed}
use Rattle.sctp_reassembly.proofs.interval_map.IntervalMap.add.Goals as goal

pub invariant_of-self-2 : goal.invariant_of-self-2
invariant_of-self-2 g c =
    let on : c.in_ok-add_to.field-0 ≡ true = search rules in
    let a = answered (held_of g.K.ReassemblyKey.number g.K.ReassemblyKey.index) g.K.ReassemblyKey.is_key g.K.ReassemblyKey.number g.K.ReassemblyKey.index (lists_of (held_of g.K.ReassemblyKey.number g.K.ReassemblyKey.index) (all_of c.self.inside.first c.self.inside.later.entries)) (lists_of (held_of g.K.ReassemblyKey.number g.K.ReassemblyKey.index) (all_of c.add_to.new.first c.add_to.new.later.entries)) (as_held (g.K.ReassemblyKey.number c.args.key) (g.K.ReassemblyKey.index c.args.key) c.args.fragment) c.add_to.new.later.entries c.in_ok-add_to.field-0 c.self.invariant.kept.runs c.in_ok-add_to.ensures.ok in
    record {
      kept = record {
        runs = a.runs;
        named = c.add_to.ensures.named;
        led = c.add_to.ensures.led;
        counted = omega (arith, a.more on, c.self.invariant.kept.counted, c.len-bytes.ensures);
        small = subst AreIndexed (sym a.value) (with_indexed _ _ (search rules) c.self.invariant.kept.small);
      };
      counted = omega (arith, c.self.invariant.counted, ap length a.value, counts_one (as_held (g.K.ReassemblyKey.number c.args.key) (g.K.ReassemblyKey.index c.args.key) c.args.fragment) (entries_of (held_of g.K.ReassemblyKey.number g.K.ReassemblyKey.index) (all_of c.self.inside.first c.self.inside.later.entries)) c.in_ok-add_to.field-0 a.answer on);
    }

pub returns-clause-value : goal.returns-clause-value
returns-clause-value g c =
    let x = as_held (g.K.ReassemblyKey.number c.args.key) (g.K.ReassemblyKey.index c.args.key) c.args.fragment in
    let a = answered (held_of g.K.ReassemblyKey.number g.K.ReassemblyKey.index) g.K.ReassemblyKey.is_key g.K.ReassemblyKey.number g.K.ReassemblyKey.index (lists_of (held_of g.K.ReassemblyKey.number g.K.ReassemblyKey.index) (all_of c.self.inside.first c.self.inside.later.entries)) (lists_of (held_of g.K.ReassemblyKey.number g.K.ReassemblyKey.index) (all_of c.add_to.new.first c.add_to.new.later.entries)) (as_held (g.K.ReassemblyKey.number c.args.key) (g.K.ReassemblyKey.index c.args.key) c.args.fragment) c.add_to.new.later.entries c.in_ok-add_to.field-0 c.self.invariant.kept.runs c.in_ok-add_to.ensures.ok in
    a.value ∙ ap (with_item rank_of x) c.self.view_is

pub returns-clause-answer : goal.returns-clause-answer
returns-clause-answer g c =
    let on : c.in_ok-add_to.field-0 ≡ true = search rules in
    let a = answered (held_of g.K.ReassemblyKey.number g.K.ReassemblyKey.index) g.K.ReassemblyKey.is_key g.K.ReassemblyKey.number g.K.ReassemblyKey.index (lists_of (held_of g.K.ReassemblyKey.number g.K.ReassemblyKey.index) (all_of c.self.inside.first c.self.inside.later.entries)) (lists_of (held_of g.K.ReassemblyKey.number g.K.ReassemblyKey.index) (all_of c.add_to.new.first c.add_to.new.later.entries)) (as_held (g.K.ReassemblyKey.number c.args.key) (g.K.ReassemblyKey.index c.args.key) c.args.fragment) c.add_to.new.later.entries c.in_ok-add_to.field-0 c.self.invariant.kept.runs c.in_ok-add_to.ensures.ok in
    sym on ∙ (a.answer ∙ ap (λ t. not (is_held rank_of (rank_at g.K.ReassemblyKey.number g.K.ReassemblyKey.index c.args.key) t)) c.self.view_is)

pub returns-clause-place : goal.returns-clause-place
returns-clause-place g c is_new =
    let on : c.in_ok-add_to.field-0 ≡ true = search rules in
    let a = answered (held_of g.K.ReassemblyKey.number g.K.ReassemblyKey.index) g.K.ReassemblyKey.is_key g.K.ReassemblyKey.number g.K.ReassemblyKey.index (lists_of (held_of g.K.ReassemblyKey.number g.K.ReassemblyKey.index) (all_of c.self.inside.first c.self.inside.later.entries)) (lists_of (held_of g.K.ReassemblyKey.number g.K.ReassemblyKey.index) (all_of c.add_to.new.first c.add_to.new.later.entries)) (as_held (g.K.ReassemblyKey.number c.args.key) (g.K.ReassemblyKey.index c.args.key) c.args.fragment) c.add_to.new.later.entries c.in_ok-add_to.field-0 c.self.invariant.kept.runs c.in_ok-add_to.ensures.ok in
    let x = as_held (g.K.ReassemblyKey.number c.args.key) (g.K.ReassemblyKey.index c.args.key) c.args.fragment in
    subst (λ v. IsPlaced v (entries_of (held_of g.K.ReassemblyKey.number g.K.ReassemblyKey.index) (all_of c.add_to.new.first c.add_to.new.later.entries)) x) c.self.view_is (a.placed on)

pub returns-clause-bytes : goal.returns-clause-bytes
returns-clause-bytes g c =
    let on : c.in_ok-add_to.field-0 ≡ true = search rules in
    let a = answered (held_of g.K.ReassemblyKey.number g.K.ReassemblyKey.index) g.K.ReassemblyKey.is_key g.K.ReassemblyKey.number g.K.ReassemblyKey.index (lists_of (held_of g.K.ReassemblyKey.number g.K.ReassemblyKey.index) (all_of c.self.inside.first c.self.inside.later.entries)) (lists_of (held_of g.K.ReassemblyKey.number g.K.ReassemblyKey.index) (all_of c.add_to.new.first c.add_to.new.later.entries)) (as_held (g.K.ReassemblyKey.number c.args.key) (g.K.ReassemblyKey.index c.args.key) c.args.fragment) c.add_to.new.later.entries c.in_ok-add_to.field-0 c.self.invariant.kept.runs c.in_ok-add_to.ensures.ok in
    omega (arith, a.more on, ap bytes_of c.self.view_is)

pub returns-clause-fragments : goal.returns-clause-fragments
returns-clause-fragments g c =
    let on : c.in_ok-add_to.field-0 ≡ true = search rules in
    let a = answered (held_of g.K.ReassemblyKey.number g.K.ReassemblyKey.index) g.K.ReassemblyKey.is_key g.K.ReassemblyKey.number g.K.ReassemblyKey.index (lists_of (held_of g.K.ReassemblyKey.number g.K.ReassemblyKey.index) (all_of c.self.inside.first c.self.inside.later.entries)) (lists_of (held_of g.K.ReassemblyKey.number g.K.ReassemblyKey.index) (all_of c.add_to.new.first c.add_to.new.later.entries)) (as_held (g.K.ReassemblyKey.number c.args.key) (g.K.ReassemblyKey.index c.args.key) c.args.fragment) c.add_to.new.later.entries c.in_ok-add_to.field-0 c.self.invariant.kept.runs c.in_ok-add_to.ensures.ok in
    omega (arith, ap length a.value, counts_one (as_held (g.K.ReassemblyKey.number c.args.key) (g.K.ReassemblyKey.index c.args.key) c.args.fragment) (entries_of (held_of g.K.ReassemblyKey.number g.K.ReassemblyKey.index) (all_of c.self.inside.first c.self.inside.later.entries)) c.in_ok-add_to.field-0 a.answer on, ap length c.self.view_is)

pub invariant_of-self : goal.invariant_of-self
invariant_of-self g c =
    still_listed g.K.ReassemblyKey.is_key g.K.ReassemblyKey.number g.K.ReassemblyKey.index c.self.inside.first c.add_to.new.first c.self.inside.later.entries c.add_to.new.later.entries c.self.inside.bytes c.self.inside.fragments c.self.invariant c.in_err-add_to.ensures.err c.add_to.ensures.named c.add_to.ensures.led

pub invariant_of-self-then-not-branch : goal.invariant_of-self-then-not-branch
invariant_of-self-then-not-branch g c =
    let off : c.in_ok-add_to.field-0 ≡ false = search rules in
    let a = answered (held_of g.K.ReassemblyKey.number g.K.ReassemblyKey.index) g.K.ReassemblyKey.is_key g.K.ReassemblyKey.number g.K.ReassemblyKey.index (lists_of (held_of g.K.ReassemblyKey.number g.K.ReassemblyKey.index) (all_of c.self.inside.first c.self.inside.later.entries)) (lists_of (held_of g.K.ReassemblyKey.number g.K.ReassemblyKey.index) (all_of c.add_to.new.first c.add_to.new.later.entries)) (as_held (g.K.ReassemblyKey.number c.args.key) (g.K.ReassemblyKey.index c.args.key) c.args.fragment) c.add_to.new.later.entries c.in_ok-add_to.field-0 c.self.invariant.kept.runs c.in_ok-add_to.ensures.ok in
    still_listed g.K.ReassemblyKey.is_key g.K.ReassemblyKey.number g.K.ReassemblyKey.index c.self.inside.first c.add_to.new.first c.self.inside.later.entries c.add_to.new.later.entries c.self.inside.bytes c.self.inside.fragments c.self.invariant (a.same off) c.add_to.ensures.named c.add_to.ensures.led

pub returns-then-not-branch-clause-value : goal.returns-then-not-branch-clause-value
returns-then-not-branch-clause-value g c =
    let a = answered (held_of g.K.ReassemblyKey.number g.K.ReassemblyKey.index) g.K.ReassemblyKey.is_key g.K.ReassemblyKey.number g.K.ReassemblyKey.index (lists_of (held_of g.K.ReassemblyKey.number g.K.ReassemblyKey.index) (all_of c.self.inside.first c.self.inside.later.entries)) (lists_of (held_of g.K.ReassemblyKey.number g.K.ReassemblyKey.index) (all_of c.add_to.new.first c.add_to.new.later.entries)) (as_held (g.K.ReassemblyKey.number c.args.key) (g.K.ReassemblyKey.index c.args.key) c.args.fragment) c.add_to.new.later.entries c.in_ok-add_to.field-0 c.self.invariant.kept.runs c.in_ok-add_to.ensures.ok in
    a.value ∙ ap (with_item rank_of (as_held (g.K.ReassemblyKey.number c.args.key) (g.K.ReassemblyKey.index c.args.key) c.args.fragment)) c.self.view_is

pub returns-then-not-branch-clause-answer : goal.returns-then-not-branch-clause-answer
returns-then-not-branch-clause-answer g c =
    let off : c.in_ok-add_to.field-0 ≡ false = search rules in
    let a = answered (held_of g.K.ReassemblyKey.number g.K.ReassemblyKey.index) g.K.ReassemblyKey.is_key g.K.ReassemblyKey.number g.K.ReassemblyKey.index (lists_of (held_of g.K.ReassemblyKey.number g.K.ReassemblyKey.index) (all_of c.self.inside.first c.self.inside.later.entries)) (lists_of (held_of g.K.ReassemblyKey.number g.K.ReassemblyKey.index) (all_of c.add_to.new.first c.add_to.new.later.entries)) (as_held (g.K.ReassemblyKey.number c.args.key) (g.K.ReassemblyKey.index c.args.key) c.args.fragment) c.add_to.new.later.entries c.in_ok-add_to.field-0 c.self.invariant.kept.runs c.in_ok-add_to.ensures.ok in
    sym off ∙ (a.answer ∙ ap (λ t. not (is_held rank_of (rank_at g.K.ReassemblyKey.number g.K.ReassemblyKey.index c.args.key) t)) c.self.view_is)
