use Rattle.proof_delivery.proofs.BoundsLemmas.{two_delivered}
use Rattle.proof_delivery.proofs.LawLemmas.{delivered, refused_none, delivered_then}
use Rattle.proof_delivery.proofs.messages_are_delivered.Goals as goal

pub returns-clause-delivered : goal.returns-clause-delivered
returns-clause-delivered c = delivered

pub returns-clause-none_refused : goal.returns-clause-none_refused
returns-clause-none_refused c = refused_none

pub returns-clause-ends : goal.returns-clause-ends
returns-clause-ends c = delivered_then

pub returns-clause-goes : goal.returns-clause-goes
returns-clause-goes c = two_delivered
