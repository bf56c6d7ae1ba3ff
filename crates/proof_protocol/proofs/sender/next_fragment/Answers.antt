use Rattle.proof_protocol.proofs.SenderRowLemmas.{next_fragment}
use Rattle.proof_protocol.proofs.sender.next_fragment.Goals as goal

pub returns : goal.returns
returns c = record { sends = λ message is_interleaved x queue p w bytes more k q here begun rest. next_fragment message is_interleaved x k queue q p w bytes more here begun rest }
