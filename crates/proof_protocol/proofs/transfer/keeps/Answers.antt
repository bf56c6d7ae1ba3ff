use Rattle.proof_protocol.proofs.ClaimsLemmas.{claimed}
use Rattle.proof_protocol.proofs.GrowsLemmas.{one}
use Rattle.proof_protocol.proofs.RulesKeepLemmas.{at_start, keeps}
use Rattle.proof_protocol.proofs.transfer.keeps.Goals as goal

pub returns-clause-first : goal.returns-clause-first
returns-clause-first c = at_start

pub returns-clause-step : goal.returns-clause-step
returns-clause-step c message is_interleaved x e k a = keeps message is_interleaved x k e a

pub returns-clause-claims : goal.returns-clause-claims
returns-clause-claims c = claimed

pub returns-clause-grows : goal.returns-clause-grows
returns-clause-grows c = one
