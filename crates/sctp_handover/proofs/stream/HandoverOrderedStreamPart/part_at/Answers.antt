use Rattle.std.proofs.Common.{◌∙◌}
use Rattle.sctp_handover.proofs.OpenLemmas.{opened_ordered}
use Rattle.sctp_handover.proofs.stream.HandoverOrderedStreamPart.part_at.Goals as goal

pub returns : goal.returns
returns c = λ s after fits e.
    let opened = e ∙ opened_ordered s after in
    let id_is = c.number16_at-id.ensures s.id _ fits.id opened in
    let next_ssn_is = c.number32_at-next_ssn.ensures s.next_ssn _ fits.next_ssn id_is.1 in
    (λ j. record { id = id_is.0 j; next_ssn = next_ssn_is.0 j }, next_ssn_is.1)
