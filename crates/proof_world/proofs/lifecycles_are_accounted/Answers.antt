use Rattle.proof_world.proofs.EndedLemmas.{ended_handed, ended_once}
use Rattle.proof_world.proofs.lifecycles_are_accounted.Goals as goal

pub returns-clause-handed : goal.returns-clause-handed
returns-clause-handed c = ended_handed

pub returns-clause-once : goal.returns-clause-once
returns-clause-once c = ended_once
