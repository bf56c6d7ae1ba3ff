use Rattle.std.proofs.Common.{◌≡◌, length, ◌∙◌, rules, arith}
use Rattle.std.specs.Prelude.{option_map}
use Rattle.sctp_tx_outstanding.specs.OutstandingData.{last_of}
use Rattle.sctp_tx_outstanding.specs.Views.{last_tree}
use Rattle.sctp_tx_outstanding.proofs.MessagesLemmas.{none_here, later_step, later_done}
use Rattle.sctp_tx_outstanding.proofs.kept.find_last.Goals as goal

pub loop-place-preserved : goal.loop-place-preserved
loop-place-preserved c =
    let is = c.args.items.now.items in
    let id = c.args.message_id.0 in
    record {
      within = omega (arith, c.if-count-next.false);
      last =
          later_step id c.loop-place.place c.next_from-next.result (option_map last_tree c.loop-place.last) (option_map last_tree c.later_at-last.result) (last_of id is) is
          c.next_from-next.ensures.onward (c.next_from-next.ensures.none) c.later_at-last.ensures c.loop-place.invariant.last;
    }

pub returns-then-count-next : goal.returns-then-count-next
returns-then-count-next c =
    let is = c.args.items.now.items in
    let all : c.len-count.result ≡ length is = search rules in
    later_done c.args.message_id.0 c.loop-place.place c.next_from-next.result (option_map last_tree c.loop-place.last) is c.next_from-next.ensures.onward (omega (arith, all, c.if-count-next.true))
    (c.next_from-next.ensures.none) ∙ c.loop-place.invariant.last

pub returns : goal.returns
returns c =
    let is = c.args.items.now.items in
    let place = c.loop-place.place in
    let all : c.len-count.result ≡ length is = search rules in
    later_done c.args.message_id.0 place place (option_map last_tree c.loop-place.last) is (omega arith) (omega (arith, all, c.loop-place-test.false)) (none_here c.args.message_id.0 place is)
    ∙ c.loop-place.invariant.last
