use Rattle.proof_delivery.proofs.ResetRunLemmas.{one_reset}
use Rattle.proof_delivery.proofs.a_stream_is_reset.Goals as goal

pub returns : goal.returns
returns c = one_reset
