use Rattle.proof_awake.proofs.LawLemmas.{new_ends, calls_keep, awake}
use Rattle.proof_awake.proofs.ends_are_awake.Goals as goal

pub returns-clause-new : goal.returns-clause-new
returns-clause-new c = new_ends

pub returns-clause-calls : goal.returns-clause-calls
returns-clause-calls c = calls_keep

pub returns-clause-awake : goal.returns-clause-awake
returns-clause-awake c = awake
