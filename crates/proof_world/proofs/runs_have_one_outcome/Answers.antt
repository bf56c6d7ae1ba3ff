use Rattle.proof_world.proofs.OnceLemmas.{runs_once}
use Rattle.proof_world.proofs.runs_have_one_outcome.Goals as goal

pub returns : goal.returns
returns c = runs_once
