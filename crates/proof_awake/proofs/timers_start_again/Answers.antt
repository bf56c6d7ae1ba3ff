use Rattle.proof_awake.proofs.RestoredLemmas.{data_starts, sack_starts}
use Rattle.proof_awake.proofs.TakenUpLemmas.{restores_keep}
use Rattle.proof_awake.proofs.timers_start_again.Goals as goal

pub returns-clause-data_starts : goal.returns-clause-data_starts
returns-clause-data_starts c = data_starts

pub returns-clause-sack_starts : goal.returns-clause-sack_starts
returns-clause-sack_starts c = sack_starts

pub returns-clause-restored : goal.returns-clause-restored
returns-clause-restored c = restores_keep
