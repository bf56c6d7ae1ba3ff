use Rattle.proof_awake.proofs.LawLemmas.{points_named}
use Rattle.proof_awake.proofs.due_points_have_a_moment.Goals as goal

pub returns : goal.returns
returns c = record { point = points_named }
