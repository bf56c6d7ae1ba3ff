use Rattle.std.proofs.Common.{◌∙◌}
use Rattle.sctp_handover.proofs.OpenLemmas.{opened_outgoing}
use Rattle.sctp_handover.proofs.stream.HandoverOutgoingStreamPart.part_at.Goals as goal

pub returns : goal.returns
returns c = λ s after fits e.
    let opened = e ∙ opened_outgoing s after in
    let id_is = c.number16_at-id.ensures s.id _ fits.id opened in
    let next_ssn_is = c.number16_at-next_ssn.ensures s.next_ssn _ fits.next_ssn id_is.1 in
    let next_unordered_mid_is = c.number32_at-next_unordered_mid.ensures s.next_unordered_mid _ fits.next_unordered_mid next_ssn_is.1 in
    let next_ordered_mid_is = c.number32_at-next_ordered_mid.ensures s.next_ordered_mid _ fits.next_ordered_mid next_unordered_mid_is.1 in
    let priority_is = c.number16_at-priority.ensures s.priority _ fits.priority next_ordered_mid_is.1 in
    (λ j. record { id = id_is.0 j; next_ssn = next_ssn_is.0 j; next_unordered_mid = next_unordered_mid_is.0 j; next_ordered_mid = next_ordered_mid_is.0 j; priority = priority_is.0 j }, priority_is.1)
