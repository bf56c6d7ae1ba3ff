use Rattle.proof_protocol.proofs.SenderRowLemmas.{accepted}
use Rattle.proof_protocol.proofs.sender.message_is_accepted.Goals as goal

pub returns : goal.returns
returns c = record { sends = λ message is_interleaved x queue k q. accepted message is_interleaved x k queue q }
