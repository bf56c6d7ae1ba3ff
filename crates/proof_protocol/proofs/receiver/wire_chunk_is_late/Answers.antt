use Rattle.proof_protocol.proofs.WireResetLemmas.{wire_late_row}
use Rattle.proof_protocol.proofs.receiver.wire_chunk_is_late.Goals as goal

pub returns : goal.returns
returns c = record { leads = wire_late_row }
