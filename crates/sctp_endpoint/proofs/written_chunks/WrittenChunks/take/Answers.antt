use Rattle.std.proofs.Common.{Vec, Global, ℕ, ap, ◌∙◌}
use Rattle.sctp_endpoint.proofs.WrittenLemmas.{none_written}
use Rattle.sctp_endpoint.proofs.written_chunks.WrittenChunks.take.Goals as goal

pub invariant_of-self : goal.invariant_of-self
invariant_of-self c = record { bytes = none_written _ _ (ap (λ (v : Vec ℕ Global). v.items) c.replace.ensures.after ∙ c.new.ensures.items) c.clear-2.ensures.items }
