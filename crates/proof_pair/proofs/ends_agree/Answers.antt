use Rattle.proof_pair.proofs.AgreeActionsLemmas.{ends_agree}
use Rattle.proof_pair.proofs.ReopensLemmas.{old_cookie_opens, restart_opens}
use Rattle.proof_pair.proofs.ends_agree.Goals as goal

pub returns : goal.returns
returns c = record { agree = ends_agree; old_cookie = old_cookie_opens; restart = restart_opens }
