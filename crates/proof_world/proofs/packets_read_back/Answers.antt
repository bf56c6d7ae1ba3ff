use Rattle.proof_world.proofs.ReadableLemmas.{new_readable, happens_readable, runs_readable}
use Rattle.proof_world.proofs.packets_read_back.Goals as goal

pub returns-clause-anew : goal.returns-clause-anew
returns-clause-anew c = new_readable

pub returns-clause-happening : goal.returns-clause-happening
returns-clause-happening c = happens_readable

pub returns-clause-running : goal.returns-clause-running
returns-clause-running c = runs_readable
