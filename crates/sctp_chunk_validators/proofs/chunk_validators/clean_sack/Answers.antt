use Rattle.std.proofs.Common.{◌∙◌, sym}
use Rattle.sctp_chunk_validators.proofs.CoveredOnceLemmas.{runs_are_maximal, one_form, shortest}
use Rattle.sctp_chunk_validators.proofs.chunk_validators.clean_sack.Goals as goal

pub returns-clause-maximal : goal.returns-clause-maximal
returns-clause-maximal c = runs_are_maximal _ _ c.clean.ensures.runs c.clean.ensures.covered

pub returns-clause-only : goal.returns-clause-only
returns-clause-only c = λ runs r same. one_form _ runs c.clean.ensures.runs r (λ n. c.clean.ensures.covered n ∙ sym (same n))

pub returns-clause-again : goal.returns-clause-again
returns-clause-again c = λ r. one_form _ _ c.clean.ensures.runs r c.clean.ensures.covered

pub returns-clause-shortest : goal.returns-clause-shortest
returns-clause-shortest c = λ others same. shortest _ others c.clean.ensures.runs (λ n. c.clean.ensures.covered n ∙ sym (same n))
