use Rattle.sctp_endpoint.proofs.WrittenLemmas.{none_written}
use Rattle.sctp_endpoint.proofs.written_chunks.WrittenChunks.clear.Goals as goal

pub invariant_of-self : goal.invariant_of-self
invariant_of-self c = record { bytes = none_written _ _ c.clear.ensures.items c.clear-2.ensures.items }
