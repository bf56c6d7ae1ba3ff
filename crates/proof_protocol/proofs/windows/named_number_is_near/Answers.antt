use Rattle.proof_protocol.proofs.WindowsLemmas.{named_window}
use Rattle.proof_protocol.proofs.windows.named_number_is_near.Goals as goal

pub returns : goal.returns
returns c = record { near = λ message is_interleaved x f s n k w sent ahead named greatest. named_window message is_interleaved x k w f sent ahead s n named greatest }
