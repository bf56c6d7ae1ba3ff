use Rattle.proof_endpoint.proofs.SoundReceivedLemmas.{accepted_fit, emitted_fit}
use Rattle.proof_endpoint.proofs.arguments_fit.Goals as goal

pub returns-clause-accepted : goal.returns-clause-accepted
returns-clause-accepted c = accepted_fit

pub returns-clause-emitted : goal.returns-clause-emitted
returns-clause-emitted c = emitted_fit
