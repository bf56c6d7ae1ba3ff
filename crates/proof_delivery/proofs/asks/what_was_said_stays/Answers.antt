use Rattle.proof_delivery.proofs.AsksLemmas.{asks_said, answers_said}
use Rattle.proof_delivery.proofs.asks.what_was_said_stays.Goals as goal

pub returns-clause-asks : goal.returns-clause-asks
returns-clause-asks c first asks more p h = asks_said first asks more p h

pub returns-clause-answers : goal.returns-clause-answers
returns-clause-answers c first done asked more further p h = answers_said first done asked more further p h
