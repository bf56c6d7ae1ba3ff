use Rattle.proof_refines.proofs.SettledQueueLemmas.{settled_restored}
use Rattle.proof_refines.proofs.settled_streams.restored_queues_are_settled.Goals as goal

pub returns : goal.returns
returns c rx r = settled_restored rx r
