use Rattle.proof_draws.proofs.WholeTraceLemmas.{packets_of_a_kind}
use Rattle.proof_draws.proofs.packets_are_whole.Goals as goal

pub returns : goal.returns
returns c = record { kinds = packets_of_a_kind }
