use Rattle.proof_refines.proofs.ReadyLemmas.{ready_forward}
use Rattle.proof_refines.proofs.ready_messages.forward_points_make_ready.Goals as goal

pub returns : goal.returns
returns c n s h = ready_forward n s h
