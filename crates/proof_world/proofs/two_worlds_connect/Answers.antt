use Rattle.proof_world.proofs.ConnectingLemmas.{two_worlds_connect}
use Rattle.proof_world.proofs.two_worlds_connect.Goals as goal

pub returns : goal.returns
returns c = two_worlds_connect
