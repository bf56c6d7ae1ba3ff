use Rattle.sctp_tx.proofs.UnfinishedLemmas.{unfinished_stays}
use Rattle.sctp_tx.proofs.laws.want_of_memory_keeps_what_stood.Goals as goal

pub returns : goal.returns
returns c = unfinished_stays
