use Rattle.proof_draws.proofs.FillingLemmas.{send_with_named}
use Rattle.proof_draws.proofs.bursts_are_named.Goals as goal

pub returns : goal.returns
returns c = record { bursts = λ n are pack is_alone p t c k. send_with_named n are pack is_alone p t c k }
