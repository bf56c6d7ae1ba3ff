use Rattle.std.proofs.lemmas.List.{append-nil}
use Rattle.sctp_chunk.specs.ChunkText.{chunk_text}
use Rattle.sctp_chunk.proofs.sack.SackChunkDisplay.fmt.Goals as goal

pub returns-clause-writes : goal.returns-clause-writes
unfolding chunk_text
returns-clause-writes g c = λ plain ok. let w = c.write.ensures.writes plain ok in rw append-nil (rw (c.deref.ensures.value, c.deref-2.ensures.value) at w)
