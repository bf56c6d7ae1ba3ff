use Rattle.proof_awake.proofs.LineInputLemmas.{each_call_lined, new_lined}
use Rattle.proof_awake.proofs.no_line_is_left.Goals as goal

pub returns-clause-new : goal.returns-clause-new
returns-clause-new c = new_lined

pub returns-clause-calls : goal.returns-clause-calls
returns-clause-calls c = each_call_lined
