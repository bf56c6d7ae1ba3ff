use Rattle.proof_pair.proofs.TraceLemmas.{ends_consistent}
use Rattle.proof_pair.proofs.ends_are_consistent.Goals as goal

pub returns : goal.returns
returns c = record { consistent = ends_consistent }
