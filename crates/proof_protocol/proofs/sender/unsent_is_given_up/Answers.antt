use Rattle.proof_protocol.proofs.SenderRowLemmas.{unsent_dropped}
use Rattle.proof_protocol.proofs.sender.unsent_is_given_up.Goals as goal

pub returns : goal.returns
returns c = record { sends = λ message is_interleaved x queue p w k q here waits. unsent_dropped message is_interleaved x k queue q p w here waits }
