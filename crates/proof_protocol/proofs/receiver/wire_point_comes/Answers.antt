use Rattle.proof_protocol.proofs.LiftedLemmas.{wire_point_row}
use Rattle.proof_protocol.proofs.receiver.wire_point_comes.Goals as goal

pub returns : goal.returns
returns c = record { leads = wire_point_row }
