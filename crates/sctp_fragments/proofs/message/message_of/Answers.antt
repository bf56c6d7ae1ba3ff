use Rattle.std.proofs.Common.{length, ap, ◌∙◌}
use Rattle.sctp_fragments.proofs.PlaceLemmas.{length_payload}
use Rattle.sctp_fragments.proofs.message.message_of.Goals as goal

pub returns-clause-bytes : goal.returns-clause-bytes
returns-clause-bytes g c = ap (λ v. length v.items) c.new.ensures.payload ∙ (ap length c.in_ok-payload.ensures ∙ length_payload _)
