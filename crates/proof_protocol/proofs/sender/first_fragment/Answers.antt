use Rattle.proof_protocol.proofs.SenderRowLemmas.{first_fragment}
use Rattle.proof_protocol.proofs.sender.first_fragment.Goals as goal

pub returns : goal.returns
returns c = record { sends = λ message is_interleaved x queue p w bytes more k q here waits rest first alone. first_fragment message is_interleaved x k queue q p w bytes more here waits rest first alone }
