use Rattle.proof_awake.proofs.LeftBehindLemmas.{numbers_left}
use Rattle.proof_awake.proofs.numbers_are_left_behind.Goals as goal

pub returns : goal.returns
returns c = record { left = numbers_left }
