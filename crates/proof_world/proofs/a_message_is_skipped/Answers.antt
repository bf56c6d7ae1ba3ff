use Rattle.proof_world.proofs.SkippingLemmas.{one_skipped_there}
use Rattle.proof_world.proofs.a_message_is_skipped.Goals as goal

pub returns : goal.returns
returns c = one_skipped_there
