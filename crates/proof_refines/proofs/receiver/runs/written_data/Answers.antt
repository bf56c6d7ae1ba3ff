use Rattle.proof_refines.proofs.NearRunLemmas as run
use Rattle.proof_refines.proofs.receiver.runs.written_data.Goals as goal

pub returns-clause-windows : goal.returns-clause-windows
returns-clause-windows c = run.windows

pub returns-clause-few : goal.returns-clause-few
returns-clause-few c = run.few
