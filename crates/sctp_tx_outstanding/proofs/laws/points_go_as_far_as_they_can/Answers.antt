use Rattle.sctp_tx_outstanding.proofs.PointLemmas.{points_go_far}
use Rattle.sctp_tx_outstanding.proofs.laws.points_go_as_far_as_they_can.Goals as goal

pub returns : goal.returns
returns c = points_go_far
