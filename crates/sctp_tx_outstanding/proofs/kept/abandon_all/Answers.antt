use Rattle.std.proofs.Common.{◌≡◌, length, ap, ◌∙◌, rules, arith}
use Rattle.sctp_tx_outstanding.specs.OutstandingData.{Kept, abandon_if_of}
use Rattle.std.specs.Prelude.{map}
use Rattle.sctp_tx_outstanding.proofs.MessagesLemmas.{none_here, laid_on, laid_next, laid_done}
use Rattle.sctp_tx_outstanding.proofs.SackLemmas.{kept_as}
use Rattle.sctp_tx_outstanding.proofs.kept.abandon_all.Goals as goal

pub loop-place-preserved : goal.loop-place-preserved
loop-place-preserved c =
    let is = c.args.kept.now.items in
    let now = c.loop-place.kept.items in
    let id = c.args.message_id.0 in
    let next = c.next_of-next.result in
    record {
      within = omega (arith, c.if-count-next.false);
      mode = ap (λ (k : Kept). k.is_interleaved) c.abandon_at.ensures ∙ c.loop-place.invariant.mode;
      items =
          laid_next id next is now c.abandon_at.new.kept.items
          (laid_on id c.loop-place.place next is now c.loop-place.invariant.items c.next_of-next.ensures.onward c.next_of-next.ensures.none)
          (ap (λ (k : Kept). k.items) c.abandon_at.ensures);
    }

pub returns-then-count-next : goal.returns-then-count-next
returns-then-count-next c =
    let is = c.args.kept.now.items in
    let id = c.args.message_id.0 in
    let all : c.len-count.result ≡ length is = search rules in
    kept_as c.loop-place.kept c.args.kept.now.is_interleaved (map (abandon_if_of id) is) c.loop-place.invariant.mode
    (laid_done id c.loop-place.place c.next_of-next.result is c.loop-place.kept.items c.loop-place.invariant.items (omega (arith, all, c.if-count-next.true))
    (omega (arith, all, c.loop-place.invariant.within)) c.next_of-next.ensures.none)

pub returns : goal.returns
returns c =
    let is = c.args.kept.now.items in
    let id = c.args.message_id.0 in
    let place = c.loop-place.place in
    let all : c.len-count.result ≡ length is = search rules in
    kept_as c.loop-place.kept c.args.kept.now.is_interleaved (map (abandon_if_of id) is) c.loop-place.invariant.mode
    (laid_done id place place is c.loop-place.kept.items c.loop-place.invariant.items (omega (arith, all, c.loop-place-test.false))
    (omega (arith, all, c.loop-place.invariant.within)) (none_here id place c.loop-place.kept.items))
