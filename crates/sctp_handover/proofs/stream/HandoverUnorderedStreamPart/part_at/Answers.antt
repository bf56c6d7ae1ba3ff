use Rattle.std.proofs.Common.{◌∙◌}
use Rattle.sctp_handover.proofs.OpenLemmas.{opened_unordered}
use Rattle.sctp_handover.proofs.stream.HandoverUnorderedStreamPart.part_at.Goals as goal

pub returns : goal.returns
returns c = λ s after fits e.
    let opened = e ∙ opened_unordered s after in
    let id_is = c.number16_at-id.ensures s.id _ fits opened in
    (λ j. record { id = id_is.0 j }, id_is.1)
