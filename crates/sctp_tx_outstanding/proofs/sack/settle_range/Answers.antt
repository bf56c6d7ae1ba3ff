use Rattle.std.proofs.Common.{◌≡◌, ◌+◌, ◌-◌, ◌≤◌, subst, ◌∙◌, arith}
use Rattle.sctp_tx_outstanding.specs.Passes.{Advances}
use Rattle.sctp_tx_outstanding.proofs.AdvanceLemmas.{further, passes, rest_given_up}
use Rattle.sctp_tx_outstanding.proofs.sack.settle_range.Goals as goal

pub loop-place-preserved : goal.loop-place-preserved
loop-place-preserved c =
    let k = c.loop-place.place in
    let next = c.min-next.result in
    let end = c.min-end.result in
    let before = c.loop-place.invariant in
    let found = c.loop-place.found in
    let m = c.args.kept.now.is_interleaved in
    let first = c.args.kept.now.items in
    let is = c.loop-place.kept.items in
    let each = c.settle_each-found in
    let js = each.new.kept.items in
    let onward : k ≤ next = omega arith in
    let ends : next ≤ end = omega arith in
    let within : end ≤ c.args.to = omega arith in
    record {
      mode = each.ensures.mode ∙ before.mode;
      onward = omega (arith, before.onward, onward, ends);
      within = within;
      length = each.ensures.length ∙ before.length;
      settled = λ bs alike.
          let done : Advances bs m c.args.from k c.args.covered found first is = before.settled bs alike in
          let passed : Advances bs m k next found found is is =
          passes bs m k next found is onward done.fits (rest_given_up bs k (next - k) (k + 1) is (λ j above below. c.pass_given_up.ensures.given_up j above (omega (arith, below, onward)))) in
          let settled : Advances bs m next end found each.result is js =
          subst (λ x. Advances bs x next end found each.result is js) before.mode
          (each.ensures.settled bs (λ p above below. alike p (omega (arith, above, onward, before.onward)) (omega (arith, below, within)))) in
          further bs m c.args.from next end c.args.covered found each.result first is js ends (further bs m c.args.from k next c.args.covered found found first is is onward done passed) settled;
    }

pub returns-clause-settled : goal.returns-clause-settled
returns-clause-settled c = λ bs alike.
    let end : c.loop-place.place ≡ c.args.to = omega arith in
    subst (λ n. Advances bs c.args.kept.now.is_interleaved c.args.from n c.args.covered c.loop-place.found c.args.kept.now.items c.loop-place.kept.items) end (c.loop-place.invariant.settled bs alike)
