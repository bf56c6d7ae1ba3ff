use Rattle.proof_protocol.proofs.ClaimsLemmas.{always}
use Rattle.proof_protocol.proofs.GrowsLemmas.{grown}
use Rattle.proof_protocol.proofs.transfer.always.Goals as goal

pub returns-clause-claims : goal.returns-clause-claims
returns-clause-claims c = always

pub returns-clause-grows : goal.returns-clause-grows
returns-clause-grows c = grown
