use Rattle.proof_refines.proofs.SenderRestLemmas.{records_row}
use Rattle.proof_refines.proofs.sender.records_are_exact.Goals as goal

pub returns : goal.returns
returns c = records_row
