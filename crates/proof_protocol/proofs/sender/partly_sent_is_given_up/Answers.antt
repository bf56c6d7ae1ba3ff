use Rattle.proof_protocol.proofs.SenderRowLemmas.{rest_dropped}
use Rattle.proof_protocol.proofs.sender.partly_sent_is_given_up.Goals as goal

pub returns : goal.returns
returns c = record { sends = λ message is_interleaved x queue p w k q here begun. rest_dropped message is_interleaved x k queue q p w here begun }
