use Rattle.std.proofs.Common.{subst, ◌∙◌, ◌+◌, ◌≤◌, refl, arith}
use Rattle.sctp_tx_outstanding.specs.OutstandingData.{Outstanding}
use Rattle.sctp_tx_outstanding.specs.Flights.{NoneFlies}
use Rattle.sctp_tx_outstanding.proofs.LossesLemmas.{nack_next_items, nack_next_emitted, nack_next_lossy}
use Rattle.sctp_tx_outstanding.proofs.ReceivedLemmas.{walk_begin, walk_past}
use Rattle.sctp_tx_outstanding.proofs.UncoveredLemmas.{quiet_less, quiet_nowhere, passed_items, passed_emitted, passed_lossy, passed_rest}
use Rattle.sctp_tx_outstanding.proofs.outstanding_data.OutstandingData.nack_uncovered.Goals as goal

pub loop-place-init : goal.loop-place-init
loop-place-init c = record {
  within = omega arith;
  cursor = walk_begin c.are_runs-are_in_order.result c.args.blocks.now 1 c.are_runs-are_in_order.ensures.0;
  items = refl;
  emitted = refl;
  lossy = refl;
  rest = c.requires;
}

pub loop-place-preserved : goal.loop-place-preserved
loop-place-preserved c =
    let bs = c.args.blocks.now in
    let indication = c.args.indication in
    let fast = c.args.fast in
    let s = c.args.self.now.items in
    let emitted = c.args.events.now in
    let k = c.loop-place.place in
    let n = c.pass_idle-block.result.1 in
    let le : k ≤ n = c.pass_idle-block.ensures.onward in
    let none = subst (λ (d : Outstanding). NoneFlies k n d.items.kept) (c.self.view_is ∙ c.loop-place.invariant.items) c.pass_idle-block.ensures.none in
    let rest = c.loop-place.invariant.rest in
    let items = passed_items indication fast bs s emitted k n le rest none c.args.self.now c.loop-place.self c.loop-place.invariant.items in
    let events = passed_emitted indication fast bs s emitted k n le rest none c.loop-place.events c.loop-place.invariant.emitted in
    let lossy = passed_lossy indication fast bs s emitted k n le rest none c.loop-place.is_lossy c.loop-place.invariant.lossy in
    record {
      within = omega (arith, c.if-count-next.false);
      cursor = walk_past c.are_runs-are_in_order.result bs (n + 1) (n + 1 + 1) c.pass_idle-block.result.0 (omega arith) c.pass_idle-block.ensures.cursor;
      items = nack_next_items indication fast n s emitted c.loop-place.self c.loop-place.events c.args.self.now items events c.nack_item.new.self c.in_ok-is_lost.ensures.items;
      emitted = nack_next_emitted indication fast n s emitted c.loop-place.self c.loop-place.events c.args.self.now items events c.nack_item.new.events c.in_ok-is_lost.ensures.emitted;
      lossy = nack_next_lossy indication fast n s emitted c.loop-place.self c.loop-place.events c.args.self.now items events c.loop-place.is_lossy c.in_ok-is_lost.is_lost _ lossy c.in_ok-is_lost.ensures.lossy refl;
      rest = passed_rest indication fast bs s emitted k n le rest none;
    }

pub returns-then-count-next-clause-items : goal.returns-then-count-next-clause-items
returns-then-count-next-clause-items c =
    let k = c.loop-place.place in
    let none = quiet_less k c.args.count c.pass_idle-block.result.1 _ c.if-count-next.true (subst (λ (d : Outstanding). NoneFlies k c.pass_idle-block.result.1 d.items.kept) (c.self.view_is ∙ c.loop-place.invariant.items) c.pass_idle-block.ensures.none) in
    passed_items c.args.indication c.args.fast c.args.blocks.now c.args.self.now.items c.args.events.now k c.args.count c.loop-place.invariant.within c.loop-place.invariant.rest none
    c.args.self.now c.loop-place.self c.loop-place.invariant.items

pub returns-then-count-next-clause-emitted : goal.returns-then-count-next-clause-emitted
returns-then-count-next-clause-emitted c =
    let k = c.loop-place.place in
    let none = quiet_less k c.args.count c.pass_idle-block.result.1 _ c.if-count-next.true (subst (λ (d : Outstanding). NoneFlies k c.pass_idle-block.result.1 d.items.kept) (c.self.view_is ∙ c.loop-place.invariant.items) c.pass_idle-block.ensures.none) in
    passed_emitted c.args.indication c.args.fast c.args.blocks.now c.args.self.now.items c.args.events.now k c.args.count c.loop-place.invariant.within c.loop-place.invariant.rest none
    c.loop-place.events c.loop-place.invariant.emitted

pub returns-then-count-next-clause-lossy : goal.returns-then-count-next-clause-lossy
returns-then-count-next-clause-lossy c =
    let k = c.loop-place.place in
    let none = quiet_less k c.args.count c.pass_idle-block.result.1 _ c.if-count-next.true (subst (λ (d : Outstanding). NoneFlies k c.pass_idle-block.result.1 d.items.kept) (c.self.view_is ∙ c.loop-place.invariant.items) c.pass_idle-block.ensures.none) in
    passed_lossy c.args.indication c.args.fast c.args.blocks.now c.args.self.now.items c.args.events.now k c.args.count c.loop-place.invariant.within c.loop-place.invariant.rest none
    c.loop-place.is_lossy c.loop-place.invariant.lossy

pub returns-clause-items : goal.returns-clause-items
returns-clause-items c =
    let k = c.loop-place.place in
    let none = quiet_nowhere k c.args.count _ (omega arith) in
    passed_items c.args.indication c.args.fast c.args.blocks.now c.args.self.now.items c.args.events.now k c.args.count c.loop-place.invariant.within c.loop-place.invariant.rest none
    c.args.self.now c.loop-place.self c.loop-place.invariant.items

pub returns-clause-emitted : goal.returns-clause-emitted
returns-clause-emitted c =
    let k = c.loop-place.place in
    let none = quiet_nowhere k c.args.count _ (omega arith) in
    passed_emitted c.args.indication c.args.fast c.args.blocks.now c.args.self.now.items c.args.events.now k c.args.count c.loop-place.invariant.within c.loop-place.invariant.rest none
    c.loop-place.events c.loop-place.invariant.emitted

pub returns-clause-lossy : goal.returns-clause-lossy
returns-clause-lossy c =
    let k = c.loop-place.place in
    let none = quiet_nowhere k c.args.count _ (omega arith) in
    passed_lossy c.args.indication c.args.fast c.args.blocks.now c.args.self.now.items c.args.events.now k c.args.count c.loop-place.invariant.within c.loop-place.invariant.rest none
    c.loop-place.is_lossy c.loop-place.invariant.lossy
