use Rattle.proof_draws.proofs.WholeTraceLemmas.{packets_pass}
use Rattle.proof_draws.proofs.packets_pass.Goals as goal

pub returns : goal.returns
returns c = record { pass = packets_pass }
