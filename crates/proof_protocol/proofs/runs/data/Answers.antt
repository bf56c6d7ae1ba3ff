use Rattle.std.proofs.Common.{refl}
use Rattle.proof_protocol.proofs.PlainRunLemmas.{plain_happens}
use Rattle.proof_protocol.proofs.runs.data.Goals as goal

pub returns-clause-may : goal.returns-clause-may
returns-clause-may c = plain_happens

pub returns-clause-ready : goal.returns-clause-ready
returns-clause-ready c = refl

pub returns-clause-reports : goal.returns-clause-reports
returns-clause-reports c = refl

pub returns-clause-kept : goal.returns-clause-kept
returns-clause-kept c = refl
