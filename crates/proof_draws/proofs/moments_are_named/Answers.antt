use Rattle.proof_draws.proofs.TimeLemmas.{advance_named}
use Rattle.proof_draws.proofs.moments_are_named.Goals as goal

pub returns : goal.returns
returns c = record { moments = λ now n are pack s k. advance_named n are pack now s k }
