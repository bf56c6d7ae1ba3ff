use Rattle.sctp_tx_outstanding.proofs.PointLemmas.{points_are_sound}
use Rattle.sctp_tx_outstanding.proofs.laws.points_are_sound.Goals as goal

pub returns : goal.returns
returns c = points_are_sound
