use Rattle.proof_protocol.proofs.WindowsLemmas.{data_window}
use Rattle.proof_protocol.proofs.windows.data_is_near.Goals as goal

pub returns : goal.returns
returns c = record { near = λ message is_interleaved x f t n k w front below kept timely. data_window message is_interleaved x k w f t n front below kept timely }
