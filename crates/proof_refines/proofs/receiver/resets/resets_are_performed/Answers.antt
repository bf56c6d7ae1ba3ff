use Rattle.proof_refines.proofs.ResetRowLemmas.{reset_row}
use Rattle.proof_refines.proofs.receiver.resets.resets_are_performed.Goals as goal

pub returns : goal.returns
returns c = record { performs = λ message is_interleaved first shift x handed t r q rs k shown near next idle. reset_row message is_interleaved first shift x k handed t r shown near q rs next idle }
