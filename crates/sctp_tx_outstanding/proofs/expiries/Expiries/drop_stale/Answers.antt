use Rattle.sctp_tx_outstanding.proofs.expiries.Expiries.drop_stale.Goals as goal

pub loop-init : goal.loop-init
loop-init c = c.requires

pub drop_first-requires : goal.drop_first-requires
drop_first-requires c = c.loop.invariant

pub loop-preserved : goal.loop-preserved
loop-preserved c = c.drop_first.ensures

pub returns : goal.returns
returns c = c.loop.invariant
