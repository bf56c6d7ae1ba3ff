use Rattle.proof_endpoint.proofs.ResetLawsLemmas.{done_are_answered, resets_wait, requests_fit}
use Rattle.proof_endpoint.proofs.resets_are_in_turn.Goals as goal

pub returns-clause-done : goal.returns-clause-done
returns-clause-done c = done_are_answered

pub returns-clause-waits : goal.returns-clause-waits
returns-clause-waits c = resets_wait

pub returns-clause-fit : goal.returns-clause-fit
returns-clause-fit c = requests_fit
