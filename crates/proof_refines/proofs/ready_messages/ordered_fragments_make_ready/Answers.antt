use Rattle.proof_refines.proofs.ReadyLemmas.{ready_ordered}
use Rattle.proof_refines.proofs.ready_messages.ordered_fragments_make_ready.Goals as goal

pub returns : goal.returns
returns c x s h late = ready_ordered x s h late
