use Rattle.proof_delivery.proofs.JustifiedTraceLemmas.{acceptances_accepted, records_justified}
use Rattle.proof_delivery.proofs.JustifiedRunLemmas.{two_given_up}
use Rattle.proof_delivery.proofs.records_are_justified.Goals as goal

pub returns-clause-justified : goal.returns-clause-justified
returns-clause-justified c = records_justified

pub returns-clause-accepted : goal.returns-clause-accepted
returns-clause-accepted c = acceptances_accepted

pub returns-clause-goes : goal.returns-clause-goes
returns-clause-goes c = two_given_up
