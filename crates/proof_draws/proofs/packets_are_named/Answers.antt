use Rattle.proof_draws.proofs.ReceiveLemmas.{handled_named}
use Rattle.proof_draws.proofs.packets_are_named.Goals as goal

pub returns : goal.returns
returns c = record { packets = λ n are pack tag chunks e h f k. handled_named n are pack tag chunks e h f k }
