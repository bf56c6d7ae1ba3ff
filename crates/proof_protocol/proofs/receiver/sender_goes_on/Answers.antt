use Rattle.proof_protocol.proofs.ReceiverRowLemmas.{still_sees, chunk_stays, key_stays}
use Rattle.proof_protocol.proofs.WireResetLemmas.{still_shown}
use Rattle.proof_protocol.proofs.receiver.sender_goes_on.Goals as goal

pub returns-clause-shows : goal.returns-clause-shows
returns-clause-shows c message is_interleaved x e q k a same s = still_sees message is_interleaved x e k a same q s

pub returns-clause-chunk : goal.returns-clause-chunk
returns-clause-chunk c message is_interleaved x e t k a within = chunk_stays message is_interleaved x e k a t within

pub returns-clause-key : goal.returns-clause-key
returns-clause-key c message is_interleaved x e t k a within = key_stays message is_interleaved x e k a t within

pub returns-clause-restarted : goal.returns-clause-restarted
returns-clause-restarted c message is_interleaved x q s shows = still_shown message is_interleaved x q s shows
