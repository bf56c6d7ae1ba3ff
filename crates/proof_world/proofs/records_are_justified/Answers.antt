use Rattle.proof_world.proofs.JustifiedLemmas.{acceptances_offers, worlds_justified}
use Rattle.proof_world.proofs.records_are_justified.Goals as goal

pub returns-clause-justified : goal.returns-clause-justified
returns-clause-justified c = worlds_justified

pub returns-clause-offers : goal.returns-clause-offers
returns-clause-offers c = acceptances_offers
