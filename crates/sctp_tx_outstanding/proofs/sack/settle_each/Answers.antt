use Rattle.std.proofs.Common.{◌≡◌, ◌+◌, ◌-◌, ◌^◌, ◌<◌, ◌≤◌, List, min, length, ap, subst, ◌∙◌, arith}
use Rattle.std.specs.Prelude.{slice_get}
use Rattle.sctp_tx_outstanding.specs.Item.{Item}
use Rattle.sctp_tx_outstanding.specs.OutstandingData.{Kept, change_at}
use Rattle.sctp_tx_outstanding.specs.Sack.{ack_or_uncover, bytes_of}
use Rattle.sctp_tx_outstanding.specs.Passes.{Advances}
use Rattle.sctp_tx_outstanding.proofs.TotalsLemmas.{length_change}
use Rattle.sctp_tx_outstanding.proofs.AdvanceLemmas.{step_by, further}
use Rattle.sctp_tx_outstanding.proofs.sack.settle_each.Goals as goal

pub loop-place-preserved : goal.loop-place-preserved
loop-place-preserved c =
    let k = c.loop-place.place in
    let before = c.loop-place.invariant in
    let found = c.loop-place.found in
    let settled = c.settle_at-found.ensures in
    let m = c.args.kept.now.is_interleaved in
    let is = c.loop-place.kept.items in
    let js = c.settle_at-found.new.kept.items in
    let there : js ≡ change_at k (ack_or_uncover c.args.is_covered) is = ap (λ (x : Kept). x.items) settled.items in
    let bytes : c.settle_at-found.result.bytes ≡ min (found.bytes + bytes_of c.args.is_covered m (slice_get is k)) (2 ^ 64 - 1) =
    settled.bytes ∙ ap (λ b. min (found.bytes + bytes_of c.args.is_covered b (slice_get is k)) (2 ^ 64 - 1)) before.mode in
    let from : c.args.from ≤ k = omega arith in
    let less : k < c.args.to = omega arith in
    let within : k < length is = omega (arith, less, c.requires.within, before.length) in
    record {
      mode = ap (λ (x : Kept). x.is_interleaved) settled.items ∙ before.mode;
      onward = omega (arith, before.onward);
      within = omega (arith, less);
      length = ap (λ (xs : List Item). length xs) there ∙ length_change k (ack_or_uncover c.args.is_covered) is ∙ before.length;
      settled = λ bs alike.
          further bs m c.args.from k (k + 1) c.args.covered found c.settle_at-found.result c.args.kept.now.items is js (omega arith) (before.settled bs alike)
          (step_by bs c.args.is_covered m k found c.settle_at-found.result is js (alike k from less) within there bytes settled.below);
    }

pub returns-clause-settled : goal.returns-clause-settled
returns-clause-settled c = λ bs alike.
    let end : c.loop-place.place ≡ c.args.to = omega arith in
    subst (λ n. Advances bs c.args.kept.now.is_interleaved c.args.from n c.args.covered c.loop-place.found c.args.kept.now.items c.loop-place.kept.items) end (c.loop-place.invariant.settled bs alike)
