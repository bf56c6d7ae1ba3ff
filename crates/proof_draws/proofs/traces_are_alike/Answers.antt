use Rattle.proof_draws.proofs.LawLemmas.{are_always_alike}
use Rattle.proof_draws.proofs.traces_are_alike.Goals as goal

pub returns : goal.returns
returns c = record { alike = are_always_alike }
