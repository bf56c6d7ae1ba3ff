use Rattle.proof_protocol.proofs.WireResetLemmas.{wire_reset_row}
use Rattle.proof_protocol.proofs.receiver.wire_stream_is_reset.Goals as goal

pub returns : goal.returns
returns c = record { leads = wire_reset_row }
