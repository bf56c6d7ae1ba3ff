use Rattle.proof_world.proofs.AgreedLemmas.{worlds_agree}
use Rattle.proof_world.proofs.worlds_agree.Goals as goal

pub returns : goal.returns
returns c = record { agree = worlds_agree }
