use Rattle.proof_endpoint.proofs.EndingLemmas.{some_call}
use Rattle.proof_endpoint.proofs.LawsLemmas.{emits_endings}
use Rattle.proof_endpoint.proofs.an_end_closes_once.Goals as goal

pub returns-clause-endings : goal.returns-clause-endings
returns-clause-endings c = emits_endings

pub returns-clause-closing : goal.returns-clause-closing
returns-clause-closing c = some_call
