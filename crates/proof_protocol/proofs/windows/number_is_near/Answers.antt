use Rattle.proof_protocol.proofs.WindowsLemmas.{number_window}
use Rattle.proof_protocol.proofs.windows.number_is_near.Goals as goal

pub returns : goal.returns
returns c = record { near = λ message is_interleaved x t k w kept within ordered. number_window message is_interleaved x k w t kept within ordered }
