use Rattle.proof_refines.proofs.ReadyLemmas.{ready_unordered}
use Rattle.proof_refines.proofs.ready_messages.unordered_fragments_make_ready.Goals as goal

pub returns : goal.returns
returns c x s h late = ready_unordered x s h late
