use Rattle.std.proofs.Common.{◌≡◌, List, inl, inr, true, false, length, ap, sym, subst, ◌∙◌, rules, arith}
use Rattle.std.specs.Prelude.{slice_get}
use Rattle.std.proofs.lemmas.Bool.{cases_lt}
use Rattle.sctp_tx_outstanding.specs.declared.skips.SkipEntry.{SkipEntry}
use Rattle.sctp_tx_outstanding.specs.declared.skips.Touched.{Touched}
use Rattle.sctp_tx_outstanding.specs.Forward.{stops, passes_of, entry_in, with_entry}
use Rattle.sctp_tx_outstanding.specs.OutstandingData.{Outstanding}
use Rattle.sctp_tx_outstanding.specs.Passed.{BeginsPoint}
use Rattle.sctp_tx_outstanding.specs.Point.{Ascend}
use Rattle.sctp_tx_outstanding.specs.Touched.{entries_in, touched_with}
use Rattle.sctp_tx_outstanding.specs.Views.{point_of}
use Rattle.sctp_tx_outstanding.proofs.BreakLemmas.{stopped}
use Rattle.sctp_tx_outstanding.proofs.EntriesLemmas.{ascends_with}
use Rattle.sctp_tx_outstanding.proofs.ForwardLemmas.{at, next_passes, forward_on, forward_off, forward_end}
use Rattle.sctp_tx_outstanding.proofs.PassedLemmas.{begun_walk, begun_ascends}
use Rattle.sctp_tx_outstanding.proofs.TouchedLemmas.{touched_entries}
use Rattle.sctp_tx_outstanding.proofs.outstanding_data.OutstandingData.forward_point.Goals as goal

pub loop-place-init : goal.loop-place-init
loop-place-init c =
    let s = c.args.self.now.items in
    let end = c.items_before_break-end.result in
    let f = point_of c.in_ok-begun.begun in
    let begins : BeginsPoint c.args.max_size end s.is_interleaved s.kept f =
    subst (λ (d : Outstanding). BeginsPoint c.args.max_size end d.items.is_interleaved d.items.kept f) c.self.view_is c.in_ok-begun.ensures in
    record {
      walked = begun_walk c.args.max_size s end f begins c.items_before_break-end.ensures.before;
      ascending = begun_ascends c.args.max_size s end f begins;
    }

pub returns-then-not-branch : goal.returns-then-not-branch
returns-then-not-branch c =
    let s = c.args.self.now.items in
    let ts = c.loop-place.touched.items in
    let k = c.loop-place.place in
    let clear : stops k s ≡ false = c.items_before_break-end.ensures.before k (search rules) in
    let p : passes_of c.args.max_size s (at k (entries_in ts)) (slice_get s.kept k) ≡ false =
    sym (next_passes c.args.max_size s k (entries_in ts) (slice_get s.kept k) clear) ∙ (search rules) in
    let es : entries_in c.pass.new.touched.items ≡ entries_in ts = ap (λ (us : List Touched). entries_in us) (c.in_ok-pass.ensures.off (search rules)) in
    ap (λ (xs : List SkipEntry). at k xs) es ∙ forward_off c.args.max_size s k (entries_in ts) _ c.loop-place.invariant.walked p

pub loop-place-preserved : goal.loop-place-preserved
loop-place-preserved c =
    let s = c.args.self.now.items in
    let ts = c.loop-place.touched.items in
    let k = c.loop-place.place in
    let o = entry_in s.is_interleaved (slice_get s.kept k) in
    let clear : stops k s ≡ false = c.items_before_break-end.ensures.before k (search rules) in
    let p : passes_of c.args.max_size s (at k (entries_in ts)) (slice_get s.kept k) ≡ true =
    sym (next_passes c.args.max_size s k (entries_in ts) (slice_get s.kept k) clear) ∙ (search rules) in
    let put : c.pass.new.touched.items ≡ touched_with o k ts = search rules in
    let e : entries_in c.pass.new.touched.items ≡ with_entry o (entries_in ts) = ap (λ (us : List Touched). entries_in us) put ∙ touched_entries o k ts in
    record {
      walked = forward_on c.args.max_size s k (entries_in ts) _ c.loop-place.invariant.walked (entries_in c.pass.new.touched.items) p e;
      ascending = subst Ascend (sym e) (ascends_with o (entries_in ts) c.loop-place.invariant.ascending);
    }

pub returns : goal.returns
returns c =
    let s = c.args.self.now.items in
    let es = entries_in c.loop-place.touched.items in
    let end = c.items_before_break-end.result in
    let done : c.loop-place.place ≡ end = omega (arith, c.in_ok-begun.ensures.ends) in
    ap (λ k. at k es) (sym done)
    ∙ elim (cases_lt end (length s.kept)) [
      | inl short ↦
          let stop : stops c.loop-place.place s ≡ true = subst (λ k. stops k s ≡ true) (sym done) (c.items_before_break-end.ensures.end short) in
          forward_off c.args.max_size s c.loop-place.place es _ c.loop-place.invariant.walked (stopped c.args.max_size s (at c.loop-place.place es) (slice_get s.kept c.loop-place.place) stop)
      | inr all ↦ forward_end c.args.max_size s c.loop-place.place es _ c.loop-place.invariant.walked (omega (arith, all, done))
    ]
