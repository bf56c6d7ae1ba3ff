use Rattle.proof_protocol.proofs.LiftedLemmas.{wire_chunk_row}
use Rattle.proof_protocol.proofs.receiver.wire_chunk_comes.Goals as goal

pub returns : goal.returns
returns c = record { leads = wire_chunk_row }
