use Rattle.proof_refines.proofs.SettledQueueLemmas.{settled_begins_anew}
use Rattle.proof_refines.proofs.settled_streams.resets_leave_queues_settled.Goals as goal

pub returns : goal.returns
returns c ids r h = settled_begins_anew ids r h
