use Rattle.proof_refines.proofs.RowLemmas.{sender_goes}
use Rattle.proof_refines.proofs.receiver.sender_goes_on.Goals as goal

pub returns : goal.returns
returns c = record { receives = λ message is_interleaved base shift x e handed t r kept may same shown. sender_goes message is_interleaved shift base x handed t r shown e kept may same }
