use Rattle.proof_refines.proofs.SettledQueueLemmas.{settled_passes}
use Rattle.proof_refines.proofs.settled_streams.forward_points_leave_queues_settled.Goals as goal

pub returns : goal.returns
returns c tsn es r h = settled_passes r h tsn es
