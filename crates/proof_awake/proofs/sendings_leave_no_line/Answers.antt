use Rattle.proof_awake.proofs.LineLemmas.{none_in_line}
use Rattle.proof_awake.proofs.LineCallLemmas.{calls_leave_no_line}
use Rattle.proof_awake.proofs.sendings_leave_no_line.Goals as goal

pub returns-clause-line : goal.returns-clause-line
returns-clause-line c = none_in_line

pub returns-clause-calls : goal.returns-clause-calls
returns-clause-calls c = calls_leave_no_line
