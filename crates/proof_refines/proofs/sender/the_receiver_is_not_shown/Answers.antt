use Rattle.proof_refines.proofs.WholeLemmas.{shown_again}
use Rattle.proof_refines.proofs.sender.the_receiver_is_not_shown.Goals as goal

pub returns : goal.returns
returns c = shown_again
