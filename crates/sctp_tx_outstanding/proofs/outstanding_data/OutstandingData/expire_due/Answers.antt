use Rattle.std.proofs.Common.{◌≡◌, length, rules, arith}
use Rattle.sctp_tx_outstanding.specs.Expiries.{NoneExpires}
use Rattle.sctp_tx_outstanding.proofs.ExpiryLemmas.{past_items, past_emitted, expired_items, expired_emitted}
use Rattle.sctp_tx_outstanding.proofs.outstanding_data.OutstandingData.expire_due.Goals as goal

pub loop-place-preserved : goal.loop-place-preserved
loop-place-preserved c =
    let d = c.args.self.now in
    let k = c.loop-place.place in
    let n = c.next-next.result in
    let none : NoneExpires c.args.now k n d.items.kept = c.next-next.ensures.none c.args.now d.items.kept c.requires in
    let at = c.loop-place.invariant in
    record {
      within = omega (arith, c.if-count-next.false);
      items = expired_items c.args.now k n d c.args.events.now c.next-next.ensures.onward none c.loop-place.self c.loop-place.events at.items at.emitted c.expire_item.new.self c.in_ok-expire_item.ensures.items;
      emitted =
          expired_emitted c.args.now k n d c.args.events.now c.next-next.ensures.onward none c.loop-place.self c.loop-place.events at.items at.emitted c.expire_item.new.events c.in_ok-expire_item.ensures.emitted;
    }

pub returns-then-count-next-clause-items : goal.returns-then-count-next-clause-items
returns-then-count-next-clause-items c =
    let d = c.args.self.now in
    let k = c.loop-place.place in
    let n = length d.items.kept in
    let all : c.len-count.result ≡ n = search rules in
    let at = c.loop-place.invariant in
    let none : NoneExpires c.args.now k n d.items.kept = λ j above below. c.next-next.ensures.none c.args.now d.items.kept c.requires j above (omega (arith, below, all, c.if-count-next.true)) in
    past_items c.args.now k n d c.args.events.now (omega (arith, at.within, all)) none c.loop-place.self c.loop-place.events at.items at.emitted

pub returns-then-count-next-clause-emitted : goal.returns-then-count-next-clause-emitted
returns-then-count-next-clause-emitted c =
    let d = c.args.self.now in
    let k = c.loop-place.place in
    let n = length d.items.kept in
    let all : c.len-count.result ≡ n = search rules in
    let at = c.loop-place.invariant in
    let none : NoneExpires c.args.now k n d.items.kept = λ j above below. c.next-next.ensures.none c.args.now d.items.kept c.requires j above (omega (arith, below, all, c.if-count-next.true)) in
    past_emitted c.args.now k n d c.args.events.now (omega (arith, at.within, all)) none c.loop-place.self c.loop-place.events at.items at.emitted
