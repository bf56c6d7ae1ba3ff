use Rattle.proof_awake.proofs.LeftBehindLemmas.{left_behind, line_left}
use Rattle.proof_awake.proofs.a_reset_is_left_behind.Goals as goal

pub returns-clause-left : goal.returns-clause-left
returns-clause-left c = left_behind

pub returns-clause-line : goal.returns-clause-line
returns-clause-line c = line_left
