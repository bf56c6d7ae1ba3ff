use Rattle.proof_protocol.specs.Reassembly.{KeyOf, next_of, key_of, below_of}
use Rattle.proof_protocol.proofs.ReceiverRowLemmas.{key_laws, stream_reset}
use Rattle.proof_protocol.proofs.receiver.stream_is_reset.Goals as goal

pub returns : goal.returns
returns c = record { leads = λ message is_interleaved x q r s upto k shows resettable forgotten settled. stream_reset (KeyOf is_interleaved) (next_of is_interleaved) message is_interleaved x k (key_of is_interleaved message x.sender) (below_of is_interleaved) (key_laws message is_interleaved x k) q shows r s upto resettable forgotten settled }
