use Rattle.proof_protocol.proofs.WindowsLemmas.{acknowledged_within, sack_window}
use Rattle.proof_protocol.proofs.windows.sack_is_near.Goals as goal

pub returns : goal.returns
returns c = record { near = λ message is_interleaved x point own n k w above within kept timely. sack_window message is_interleaved x k w point own n above within kept timely (acknowledged_within message is_interleaved x k) }
