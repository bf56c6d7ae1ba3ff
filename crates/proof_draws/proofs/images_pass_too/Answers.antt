use Rattle.proof_draws.proofs.PassLemmas.{images_pass}
use Rattle.proof_draws.proofs.images_pass_too.Goals as goal

pub returns : goal.returns
returns c = record { pass = images_pass }
