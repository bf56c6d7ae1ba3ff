use Rattle.proof_refines.proofs.SenderRestLemmas.{rest_row}
use Rattle.proof_refines.proofs.sender.rest_is_rest.Goals as goal

pub returns : goal.returns
returns c = λ message lifecycle is_interleaved x q s k sh empty none. rest_row message lifecycle is_interleaved x q s.outstanding.items k sh empty none
