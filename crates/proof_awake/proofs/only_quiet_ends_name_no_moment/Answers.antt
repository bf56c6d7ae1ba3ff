use Rattle.proof_awake.proofs.LawLemmas.{quiet}
use Rattle.proof_awake.proofs.only_quiet_ends_name_no_moment.Goals as goal

pub returns : goal.returns
returns c = record { quiet = quiet }
