use Rattle.sctp_packet.proofs.OneChunkLemmas as lemmas
use Rattle.sctp_packet.proofs.laws.one_chunk.Goals as goal

pub returns : goal.returns
returns c = lemmas.one_chunk
