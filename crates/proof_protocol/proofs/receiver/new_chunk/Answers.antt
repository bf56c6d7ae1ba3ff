use Rattle.proof_protocol.specs.Reassembly.{KeyOf, next_of, key_of, below_of}
use Rattle.proof_protocol.proofs.ReceiverRowLemmas.{key_laws, new_chunk}
use Rattle.proof_protocol.proofs.receiver.new_chunk.Goals as goal

pub returns : goal.returns
returns c = record { leads = λ message is_interleaved x q m r t k s within real unseen added more. new_chunk (KeyOf is_interleaved) (next_of is_interleaved) message is_interleaved x k (key_of is_interleaved message x.sender) (below_of is_interleaved) (key_laws message is_interleaved x k) q s m r t within real unseen added more }
