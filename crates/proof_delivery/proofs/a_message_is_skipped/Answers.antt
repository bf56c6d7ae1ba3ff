use Rattle.proof_delivery.proofs.SkippingLemmas.{one_skipped}
use Rattle.proof_delivery.proofs.a_message_is_skipped.Goals as goal

pub returns : goal.returns
returns c = one_skipped
