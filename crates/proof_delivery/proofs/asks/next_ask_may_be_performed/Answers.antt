use Rattle.proof_delivery.proofs.AskedNextLemmas.{next_ask, next_names}
use Rattle.proof_delivery.proofs.asks.next_ask_may_be_performed.Goals as goal

pub returns-clause-next : goal.returns-clause-next
returns-clause-next c x asks done answered a are there = next_ask x asks done answered are a there

pub returns-clause-names : goal.returns-clause-names
returns-clause-names c asks done a = next_names asks done a.upto a.streams
