use Rattle.proof_awake.proofs.WorldLemmas.{worlds_awake}
use Rattle.proof_awake.proofs.worlds_are_awake.Goals as goal

pub returns : goal.returns
returns c = record { worlds = worlds_awake }
