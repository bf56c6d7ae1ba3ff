use Rattle.proof_refines.proofs.SettledQueueLemmas.{settled_new}
use Rattle.proof_refines.proofs.settled_streams.new_queues_are_settled.Goals as goal

pub returns : goal.returns
returns c n b = settled_new n b
