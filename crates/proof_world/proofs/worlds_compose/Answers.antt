use Rattle.proof_delivery.proofs.LawLemmas.{delivered, refused_none, delivered_then}
use Rattle.proof_world.proofs.ComposedLemmas.{compose}
use Rattle.proof_world.proofs.DeliveredLemmas.{offers_accepted, offers_have_epochs}
use Rattle.proof_world.proofs.worlds_compose.Goals as goal

pub returns-clause-composes : goal.returns-clause-composes
returns-clause-composes c = compose delivered refused_none delivered_then

pub returns-clause-offers : goal.returns-clause-offers
returns-clause-offers c = offers_accepted

pub returns-clause-epochs : goal.returns-clause-epochs
returns-clause-epochs c = offers_have_epochs
