use Rattle.proof_protocol.specs.State.{start}
use Rattle.proof_protocol.proofs.WrittenLemmas.{own_along, own_at_start}
use Rattle.proof_protocol.proofs.transfer.numbers_are_written.Goals as goal

pub returns : goal.returns
returns c = record { along = λ message is_interleaved events happens. own_along message is_interleaved events start happens own_at_start }
