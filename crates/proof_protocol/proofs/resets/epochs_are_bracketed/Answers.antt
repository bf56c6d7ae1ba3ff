use Rattle.proof_protocol.proofs.EpochLawsLemmas.{bracketed}
use Rattle.proof_protocol.proofs.resets.epochs_are_bracketed.Goals as goal

pub returns : goal.returns
returns c = record { between = λ message is_interleaved x events k may. bracketed message is_interleaved events x k may }
