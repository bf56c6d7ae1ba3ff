use Rattle.std.proofs.Common.{refl, ap, sym, subst, ◌∙◌, arith, map}
use Rattle.std.specs.List.{sum_by}
use Rattle.std.proofs.lemmas.List.Sums.{sum_by-cons}
use Rattle.sctp_reassembly.specs.ReassemblyQueue.{Reassembly, AreSmall, apply_each, waiting_bytes, waiting_fragments}
use Rattle.sctp_reassembly.specs.Waiting.{waiting_of}
use Rattle.sctp_reassembly.proofs.ExtendsLemmas.{extends_none, extends_both, saturating_sum_none, counted_both}
use Rattle.sctp_reassembly.proofs.InterruptedLemmas.{on_err}
use Rattle.sctp_reassembly.proofs.StandsLemmas.{applies_begin, applies_step, applies_end}
use Rattle.sctp_reassembly.proofs.reassembly_queue.ReassemblyQueue.apply_each.Goals as goal

pub loop-next-init : goal.loop-next-init
loop-next-init c = record {
  rest = refl;
  part = applies_begin _ _;
  small = c.requires.small;
  kept = extends_none _;
  counted = saturating_sum_none _ _ (omega (arith, ap (λ (r : Reassembly). r.ready_count) c.self.view_is));
  room = c.requires.room;
  bytes = omega arith;
  room_fragments = c.requires.fragments;
  fragments = omega arith;
}

pub apply-requires-clause-room : goal.apply-requires-clause-room
apply-requires-clause-room c =
    let rest = map waiting_of c.pop_front.new.self.items in
    let sums = ap (sum_by waiting_bytes) (ap (map waiting_of) c.in-Some.ensures.items) ∙ sum_by-cons waiting_bytes (waiting_of c.in-Some.next) rest in
    omega (arith, sums, c.loop-next.invariant.room)

pub apply-requires-clause-fragments : goal.apply-requires-clause-fragments
apply-requires-clause-fragments c =
    let rest = map waiting_of c.pop_front.new.self.items in
    let counts = ap (sum_by waiting_fragments) (ap (map waiting_of) c.in-Some.ensures.items) ∙ sum_by-cons waiting_fragments (waiting_of c.in-Some.next) rest in
    omega (arith, counts, c.loop-next.invariant.room_fragments)

pub apply-requires-clause-small : goal.apply-requires-clause-small
apply-requires-clause-small c = (subst AreSmall (ap (map waiting_of) c.in-Some.ensures.items) c.loop-next.invariant.small).0

pub loop-next-preserved : goal.loop-next-preserved
loop-next-preserved c =
    let w = waiting_of c.in-Some.next in
    let rest = map waiting_of c.pop_front.new.self.items in
    let is = ap (map waiting_of) c.in-Some.ensures.items in
    let sums = ap (sum_by waiting_bytes) is ∙ sum_by-cons waiting_bytes w rest in
    let counts = ap (sum_by waiting_fragments) is ∙ sum_by-cons waiting_fragments w rest in
    let before = c.loop-next.invariant in
    record {
      rest = ap (apply_each rest) c.in_ok-apply.ensures.ok ∙ (ap (λ ws. apply_each ws c.loop-next.self) (sym is) ∙ before.rest);
      part = applies_step w _ rest c.loop-next.self c.apply.new.self _ _ is before.part c.in_ok-apply.ensures.ok;
      small = (subst AreSmall is before.small).1;
      kept = extends_both _ _ _ before.kept c.apply.ensures.kept;
      counted = counted_both c.args.self.now c.loop-next.self c.apply.new.self before.kept c.apply.ensures.kept before.counted c.apply.ensures.counted;
      room = omega (arith, sums, c.apply.ensures.bytes, before.room);
      bytes = omega (arith, sums, c.apply.ensures.bytes, before.bytes);
      room_fragments = omega (arith, counts, c.apply.ensures.fragments, before.room_fragments);
      fragments = omega (arith, counts, c.apply.ensures.fragments, before.fragments);
    }

pub returns-in_err-apply-clause-err : goal.returns-in_err-apply-clause-err
returns-in_err-apply-clause-err c =
    on_err c.from_residual.result
    (applies_end (waiting_of c.in-Some.next) _ (map waiting_of c.pop_front.new.self.items) c.loop-next.self c.apply.new.self _ _ (ap (map waiting_of) c.in-Some.ensures.items) c.loop-next.invariant.part c.in_err-apply.ensures.err)

pub returns-in_err-apply-clause-fragments : goal.returns-in_err-apply-clause-fragments
returns-in_err-apply-clause-fragments c =
    let rest = map waiting_of c.pop_front.new.self.items in
    let counts = ap (sum_by waiting_fragments) (ap (map waiting_of) c.in-Some.ensures.items) ∙ sum_by-cons waiting_fragments (waiting_of c.in-Some.next) rest in
    omega (arith, counts, c.apply.ensures.fragments, c.loop-next.invariant.fragments)

pub returns-in_err-apply-clause-kept : goal.returns-in_err-apply-clause-kept
returns-in_err-apply-clause-kept c = extends_both _ _ _ c.loop-next.invariant.kept c.apply.ensures.kept

pub returns-in_err-apply-clause-counted : goal.returns-in_err-apply-clause-counted
returns-in_err-apply-clause-counted c =
    let before = c.loop-next.invariant in
    counted_both c.args.self.now c.loop-next.self c.apply.new.self before.kept c.apply.ensures.kept before.counted c.apply.ensures.counted

pub returns-in_err-apply-clause-bytes : goal.returns-in_err-apply-clause-bytes
returns-in_err-apply-clause-bytes c =
    let rest = map waiting_of c.pop_front.new.self.items in
    let sums = ap (sum_by waiting_bytes) (ap (map waiting_of) c.in-Some.ensures.items) ∙ sum_by-cons waiting_bytes (waiting_of c.in-Some.next) rest in
    omega (arith, sums, c.apply.ensures.bytes, c.loop-next.invariant.bytes)

pub returns-clause-kept : goal.returns-clause-kept
returns-clause-kept c = c.loop-next.invariant.kept

pub returns-clause-counted : goal.returns-clause-counted
returns-clause-counted c = c.loop-next.invariant.counted
