use Rattle.sctp_error_cause.proofs.LawLemmas.{cause_stands}
use Rattle.sctp_error_cause.proofs.laws.cause_is_not_refused.Goals as goal

pub returns : goal.returns
returns c = cause_stands
