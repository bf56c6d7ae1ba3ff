use Rattle.proof_endpoint.proofs.RowsLemmas.{beats_goes, first_goes, order_goes, both_goes, given_up_goes, fragments_goes, closes_goes, shuts_down_goes, taken_up_goes, resets_goes, reset_waits_goes}
use Rattle.proof_endpoint.proofs.conversations_go.Goals as goal

pub returns-clause-first : goal.returns-clause-first
returns-clause-first c = first_goes

pub returns-clause-order : goal.returns-clause-order
returns-clause-order c = order_goes

pub returns-clause-both : goal.returns-clause-both
returns-clause-both c = both_goes

pub returns-clause-given_up : goal.returns-clause-given_up
returns-clause-given_up c = given_up_goes

pub returns-clause-fragments : goal.returns-clause-fragments
returns-clause-fragments c = fragments_goes

pub returns-clause-closes : goal.returns-clause-closes
returns-clause-closes c = closes_goes

pub returns-clause-shuts_down : goal.returns-clause-shuts_down
returns-clause-shuts_down c = shuts_down_goes

pub returns-clause-resets : goal.returns-clause-resets
returns-clause-resets c = resets_goes

pub returns-clause-reset_waits : goal.returns-clause-reset_waits
returns-clause-reset_waits c = reset_waits_goes

pub returns-clause-beats : goal.returns-clause-beats
returns-clause-beats c = beats_goes

pub returns-clause-taken_up : goal.returns-clause-taken_up
returns-clause-taken_up c = taken_up_goes
