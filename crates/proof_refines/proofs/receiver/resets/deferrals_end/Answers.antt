use Rattle.proof_refines.proofs.DeferralRowLemmas.{next_once_seen, none_waits}
use Rattle.proof_refines.proofs.receiver.resets.deferrals_end.Goals as goal

pub returns-clause-next : goal.returns-clause-next
returns-clause-next c x upto rs next seen = next_once_seen x upto rs next seen

pub returns-clause-idle : goal.returns-clause-idle
returns-clause-idle c shift x first d waiting = none_waits shift x first d waiting
