use Rattle.proof_draws.proofs.ReadingLemmas.{named_data, named_forward}
use Rattle.proof_draws.proofs.SackLemmas.{named_on_sack}
use Rattle.proof_draws.proofs.numbers_stand_for_the_same.Goals as goal

pub returns : goal.returns
returns c = record { fragments = λ n pack tsn is_immediate f s some. named_data n pack tsn is_immediate f s some; forward = λ n pack tsn es s. named_forward n pack tsn es s; sacks = λ n are pack h s k. named_on_sack n are pack h s k }
