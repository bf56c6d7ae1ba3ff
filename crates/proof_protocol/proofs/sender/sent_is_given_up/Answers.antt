use Rattle.proof_protocol.proofs.SenderRowLemmas.{sent_given_up}
use Rattle.proof_protocol.proofs.sender.sent_is_given_up.Goals as goal

pub returns : goal.returns
returns c = record { sends = λ message is_interleaved x queue p k q within live none. sent_given_up message is_interleaved x k queue q p within live none }
