use Rattle.sctp_endpoint.proofs.WrittenLemmas.{none_written}
use Rattle.sctp_endpoint.proofs.written_chunks.WrittenChunks.new.Goals as goal

pub invariant_of-result : goal.invariant_of-result
invariant_of-result c = record { bytes = none_written _ _ c.new.ensures.items c.new-2.ensures.items }
