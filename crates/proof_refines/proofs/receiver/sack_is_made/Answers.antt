use Rattle.proof_refines.proofs.RowLemmas.{sack_allowed}
use Rattle.proof_refines.proofs.ReceivesLemmas.{none_ready}
use Rattle.proof_refines.proofs.receiver.sack_is_made.Goals as goal

pub returns-clause-allowed : goal.returns-clause-allowed
returns-clause-allowed c message is_interleaved base shift x handed t r point kept shown at = sack_allowed message is_interleaved shift base x handed t r shown kept point at

pub returns-clause-none_ready : goal.returns-clause-none_ready
returns-clause-none_ready c message is_interleaved base shift x handed t r kept shown = none_ready message is_interleaved base shift x kept handed t r shown
