use Rattle.proof_pair.proofs.OpensLemmas.{one_opens, both_open}
use Rattle.proof_pair.proofs.traces_open.Goals as goal

pub returns-clause-one : goal.returns-clause-one
returns-clause-one c = one_opens

pub returns-clause-both : goal.returns-clause-both
returns-clause-both c = both_open
