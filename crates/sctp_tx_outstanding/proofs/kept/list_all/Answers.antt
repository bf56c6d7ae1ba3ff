use Rattle.std.proofs.Common.{◌≡◌, ◌≤◌, length, rules, arith}
use Rattle.sctp_tx_outstanding.proofs.MessagesLemmas.{lists_all}
use Rattle.sctp_tx_outstanding.proofs.kept.list_all.Goals as goal

pub loop-place-init : goal.loop-place-init
loop-place-init c = c.begin.ensures

pub loop-place-preserved : goal.loop-place-preserved
loop-place-preserved c = c.list_at.ensures

pub returns : goal.returns
returns c =
    let is = c.args.items.now.items in
    let all : c.len-count.result ≡ length is = search rules in
    let done : length is ≤ c.loop-place.place = omega (arith, all, c.loop-place-test.false) in
    c.settle.ensures is (lists_all c.loop-place.messages is c.loop-place.place done c.loop-place.invariant)
