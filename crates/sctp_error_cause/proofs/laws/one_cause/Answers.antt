use Rattle.sctp_error_cause.proofs.OneCauseLemmas.{one_cause_lem}
use Rattle.sctp_error_cause.proofs.laws.one_cause.Goals as goal

pub returns : goal.returns
returns c = one_cause_lem
