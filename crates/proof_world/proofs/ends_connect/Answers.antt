use Rattle.proof_world.proofs.ConnectingLemmas.{ends_connect}
use Rattle.proof_world.proofs.ends_connect.Goals as goal

pub returns : goal.returns
returns c = ends_connect
