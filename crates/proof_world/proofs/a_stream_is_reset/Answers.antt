use Rattle.proof_world.proofs.ResettingLemmas.{one_reset_there}
use Rattle.proof_world.proofs.a_stream_is_reset.Goals as goal

pub returns : goal.returns
returns c = one_reset_there
