use Rattle.proof_world.proofs.AlongLemmas.{worlds_show}
use Rattle.proof_world.proofs.worlds_show_the_same.Goals as goal

pub returns : goal.returns
returns c = record { show = worlds_show }
