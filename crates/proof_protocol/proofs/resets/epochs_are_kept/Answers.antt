use Rattle.proof_protocol.proofs.BasedLemmas.{commit_again, epochs_at_first, keeps_epochs}
use Rattle.proof_protocol.proofs.resets.epochs_are_kept.Goals as goal

pub returns-clause-first : goal.returns-clause-first
returns-clause-first c = epochs_at_first

pub returns-clause-step : goal.returns-clause-step
returns-clause-step c message is_interleaved x e k may = keeps_epochs message is_interleaved x k e may

pub returns-clause-again : goal.returns-clause-again
returns-clause-again c message is_interleaved x s kind k waits may = commit_again message is_interleaved x k s kind waits may

pub returns-clause-written : goal.returns-clause-written
returns-clause-written c message is_interleaved x p k begun = k.based.written p begun

pub returns-clause-following : goal.returns-clause-following
returns-clause-following c message is_interleaved x s kind k = k.based.following s kind
