use Rattle.proof_world.proofs.NextLemmas.{have_worlds}
use Rattle.proof_world.proofs.traces_have_worlds.Goals as goal

pub returns : goal.returns
returns c = record { worlds = have_worlds }
