use Rattle.proof_world.proofs.RunsLemmas.{have_traces}
use Rattle.proof_world.proofs.worlds_have_traces.Goals as goal

pub returns : goal.returns
returns c = record { traces = have_traces }
