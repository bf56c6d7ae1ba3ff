use Rattle.proof_protocol.specs.Reassembly.{KeyOf, next_of, key_of, below_of}
use Rattle.proof_protocol.proofs.ReceiverRowLemmas.{key_laws, sack_made}
use Rattle.proof_protocol.proofs.WireResetLemmas.{wire_sack_row}
use Rattle.proof_protocol.proofs.receiver.sack_is_made.Goals as goal

pub returns-clause-allowed : goal.returns-clause-allowed
returns-clause-allowed c message is_interleaved x q point k s seen settled =
    sack_made (KeyOf is_interleaved) (next_of is_interleaved) message is_interleaved x k (key_of is_interleaved message x.sender) (below_of is_interleaved) (key_laws message is_interleaved x k) q s point seen settled

pub returns-clause-wire : goal.returns-clause-wire
returns-clause-wire c = wire_sack_row
