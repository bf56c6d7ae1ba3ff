use Rattle.proof_endpoint.proofs.HandoverAgainLemmas.{goes_on, made_connected}
use Rattle.proof_endpoint.proofs.NewEndLemmas.{new_ends_are_ready}
use Rattle.proof_endpoint.proofs.NumberedOnceLemmas.{calls_number_once}
use Rattle.proof_endpoint.proofs.a_handover_and_its_restore_give_the_end_back.Goals as goal

pub returns-clause-goes_on : goal.returns-clause-goes_on
returns-clause-goes_on c = goes_on

pub returns-clause-made : goal.returns-clause-made
returns-clause-made c = made_connected

pub returns-clause-ready : goal.returns-clause-ready
returns-clause-ready c = new_ends_are_ready

pub returns-clause-numbers : goal.returns-clause-numbers
returns-clause-numbers c = calls_number_once
