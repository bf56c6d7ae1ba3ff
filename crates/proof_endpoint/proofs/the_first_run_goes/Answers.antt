use Rattle.proof_endpoint.proofs.OpeningRunLemmas.{it_opens}
use Rattle.proof_endpoint.proofs.FirstRunLemmas.{it_crosses, it_rests}
use Rattle.proof_endpoint.proofs.RunPacketsLemmas.{leads_on}
use Rattle.proof_endpoint.proofs.the_first_run_goes.Goals as goal

pub returns-clause-opens : goal.returns-clause-opens
returns-clause-opens c = it_opens

pub returns-clause-crosses : goal.returns-clause-crosses
returns-clause-crosses c = it_crosses

pub returns-clause-rests : goal.returns-clause-rests
returns-clause-rests c = it_rests

pub returns-clause-in_bytes : goal.returns-clause-in_bytes
returns-clause-in_bytes c = leads_on
