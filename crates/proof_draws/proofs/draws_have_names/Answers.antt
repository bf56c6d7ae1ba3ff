use Rattle.proof_draws.proofs.PairingLemmas.{pairs_know}
use Rattle.proof_draws.proofs.draws_have_names.Goals as goal

pub returns : goal.returns
returns c = record { names = pairs_know }
