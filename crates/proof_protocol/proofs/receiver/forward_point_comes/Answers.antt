use Rattle.proof_protocol.specs.Reassembly.{KeyOf, next_of, key_of, below_of}
use Rattle.proof_protocol.proofs.ReceiverRowLemmas.{key_laws, point_comes}
use Rattle.proof_protocol.proofs.receiver.forward_point_comes.Goals as goal

pub returns : goal.returns
returns c = record { leads = λ message is_interleaved x q m r f k s sent forwarded more. point_comes (KeyOf is_interleaved) (next_of is_interleaved) message is_interleaved x k (key_of is_interleaved message x.sender) (below_of is_interleaved) (key_laws message is_interleaved x k) q s m r f sent forwarded more }
