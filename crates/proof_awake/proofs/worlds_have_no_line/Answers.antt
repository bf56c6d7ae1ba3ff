use Rattle.proof_awake.proofs.WorldLineLemmas.{worlds_lined}
use Rattle.proof_awake.proofs.worlds_have_no_line.Goals as goal

pub returns : goal.returns
returns c = record { worlds = worlds_lined }
