use Rattle.std.proofs.Common.{◌^◌, ◌<◌, ◌≤◌, rules, arith}
use Rattle.sctp_tx_outstanding.proofs.AdvanceLemmas.{passes, rest_on, same_answer}
use Rattle.sctp_tx_outstanding.proofs.sack.settle_stretch.Goals as goal

pub returns-then-earlier-later-clause-settled : goal.returns-then-earlier-later-clause-settled
returns-then-earlier-later-clause-settled c =
    let olds = c.args.last.now.gap_ack_blocks.items in
    let bs = c.args.blocks.now in
    let k = c.args.walk.place in
    let e = c.min-end.result in
    let earlier = c.stretch-earlier.result in
    let later = c.stretch_of-later.result in
    let is = c.args.kept.now.items in
    let onward : k ≤ e = omega (arith, c.min.ensures, c.min-end.ensures, c.stretch-earlier.ensures.onward, c.stretch_of-later.ensures.onward, c.requires.within) in
    let fits : c.args.walk.covered.bytes < 2 ^ 64 = search rules in
    passes bs c.args.kept.now.is_interleaved k e c.args.walk.covered is onward fits
    (rest_on olds bs earlier.is_covered later.is_covered c.args.last.now.offset k earlier.end later.end e is (same_answer earlier.is_covered later.is_covered c.if-earlier-later.true) (c.stretch-earlier.ensures.covered c.if-last.true) c.stretch_of-later.ensures.covered (omega (arith, c.min.ensures, c.min-end.ensures)) (omega (arith, c.min-end.ensures)) (c.requires.rest c.if-last.true))

pub returns-clause-settled : goal.returns-clause-settled
returns-clause-settled c = c.settle_range-covered.ensures.settled c.args.blocks.now (λ p le less. c.stretch_of-later.ensures.covered p le (omega (arith, less, c.min-end.ensures)))
