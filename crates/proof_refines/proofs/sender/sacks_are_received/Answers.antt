use Rattle.proof_refines.proofs.WholeLemmas.{received_row}
use Rattle.proof_refines.proofs.sender.sacks_are_received.Goals as goal

pub returns : goal.returns
returns c = λ message lifecycle is_interleaved x q s k sh now cumulative point a_rwnd blocks emitted valid upto sent.
    received_row message lifecycle is_interleaved x q s k sh emitted now cumulative point a_rwnd blocks valid upto sent
