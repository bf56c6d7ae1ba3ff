use Rattle.proof_protocol.proofs.EpochLawsLemmas.{nothing_waits}
use Rattle.proof_protocol.proofs.resets.nothing_waits_for_a_reset.Goals as goal

pub returns : goal.returns
returns c = record { waits = λ message is_interleaved x r k sent ahead. nothing_waits message is_interleaved x k r sent ahead }
