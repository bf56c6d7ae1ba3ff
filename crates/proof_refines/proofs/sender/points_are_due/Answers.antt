use Rattle.proof_refines.proofs.PointLemmas.{point_row}
use Rattle.proof_refines.proofs.sender.points_are_due.Goals as goal

pub returns : goal.returns
returns c = λ message lifecycle is_interleaved x q s k sh due room. point_row message lifecycle is_interleaved x q s k sh due room
