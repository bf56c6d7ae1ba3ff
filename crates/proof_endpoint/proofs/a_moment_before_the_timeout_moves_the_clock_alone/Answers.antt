use Rattle.proof_endpoint.proofs.MomentsLemmas.{moves_the_clock, changes_nothing}
use Rattle.proof_endpoint.proofs.a_moment_before_the_timeout_moves_the_clock_alone.Goals as goal

pub returns-clause-before : goal.returns-clause-before
returns-clause-before c = moves_the_clock

pub returns-clause-earlier : goal.returns-clause-earlier
returns-clause-earlier c = changes_nothing
