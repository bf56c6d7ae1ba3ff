use Rattle.std.proofs.Common.{◌≤◌, length, arith}
use Rattle.sctp_tx_outstanding.proofs.ExpiriesLemmas.{expects_all}
use Rattle.sctp_tx_outstanding.proofs.kept.expect_all.Goals as goal

pub loop-place-init : goal.loop-place-init
loop-place-init c = c.begin.ensures

pub loop-place-preserved : goal.loop-place-preserved
loop-place-preserved c = c.expect_at.ensures

pub returns : goal.returns
returns c =
    let done : length c.args.items.now.items ≤ c.loop-place.place = omega (arith, c.len-place-end.ensures) in
    expects_all c.loop-place.expiries c.args.items.now.items c.loop-place.place done c.loop-place.invariant
