use Rattle.proof_awake.proofs.LawLemmas.{acknowledgements_named, windows_named}
use Rattle.proof_awake.proofs.due_acknowledgements_have_a_moment.Goals as goal

pub returns-clause-due : goal.returns-clause-due
returns-clause-due c = acknowledgements_named

pub returns-clause-opened : goal.returns-clause-opened
returns-clause-opened c = windows_named
