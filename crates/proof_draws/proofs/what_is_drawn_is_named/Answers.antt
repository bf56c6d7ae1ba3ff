use Rattle.proof_draws.proofs.OpeningLemmas.{named_connect}
use Rattle.proof_draws.proofs.what_is_drawn_is_named.Goals as goal

pub returns : goal.returns
returns c = record { connects = λ n are pack s w v k draws. named_connect n are pack s w v k draws }
