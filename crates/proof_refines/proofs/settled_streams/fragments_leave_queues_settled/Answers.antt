use Rattle.proof_refines.proofs.SettledQueueLemmas.{settled_arrives}
use Rattle.proof_refines.proofs.settled_streams.fragments_leave_queues_settled.Goals as goal

pub returns : goal.returns
returns c tsn f r h = settled_arrives r h tsn f
