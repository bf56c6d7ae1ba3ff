use Rattle.proof_refines.proofs.ReadyLemmas.{is_in}
use Rattle.proof_refines.proofs.ready_messages.held_fragments_make_messages.Goals as goal

pub returns : goal.returns
returns c hs run h k held = is_in hs run h k held
