use Rattle.proof_refines.proofs.RowLemmas.{old_point, again}
use Rattle.proof_refines.proofs.receiver.nothing_new_comes.Goals as goal

pub returns-clause-forward_point : goal.returns-clause-forward_point
returns-clause-forward_point c message is_interleaved base shift x handed t r last shown old = old_point message is_interleaved shift base x handed t r shown last old

pub returns-clause-fragment : goal.returns-clause-fragment
returns-clause-fragment c message is_interleaved base shift x handed t r k now shown i seen = again message is_interleaved shift base x handed t r shown k now i seen
