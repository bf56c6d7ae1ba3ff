use Rattle.std.proofs.Common.{Bool, ap, ◌∙◌, false}
use Rattle.sctp_handover.proofs.PartLemmas.{same_list}
use Rattle.sctp_handover.proofs.OpenLemmas.{opened_reception}
use Rattle.sctp_handover.proofs.section.reception_at.Goals as goal

pub returns : goal.returns
returns c = λ r after fits e.
    let opened = e ∙ opened_reception r after in
    let seen_packet_is = c.flags_at-seen_packet.ensures r.seen_packet false false false _ opened in
    let last_cumulative_acked_tsn_is = c.number32_at-last_cumulative_acked_tsn.ensures r.last_cumulative_acked_tsn _ fits.last_cumulative_acked_tsn seen_packet_is.1 in
    let last_assembled_tsn_is = c.number32_at-last_assembled_tsn.ensures r.last_assembled_tsn _ fits.last_assembled_tsn last_cumulative_acked_tsn_is.1 in
    let last_completed_deferred_reset_req_sn_is = c.number32_at-last_completed_deferred_reset_req_sn.ensures r.last_completed_deferred_reset_req_sn _ fits.last_completed_deferred_reset_req_sn last_assembled_tsn_is.1 in
    let last_completed_reset_req_sn_is = c.number32_at-last_completed_reset_req_sn.ensures r.last_completed_reset_req_sn _ fits.last_completed_reset_req_sn last_completed_deferred_reset_req_sn_is.1 in
    let ordered_streams_is = c.in_ok-ordered_streams.ensures r.ordered_streams _ fits.ordered_streams last_completed_reset_req_sn_is.1 in
    let unordered_streams_is = c.in_ok-unordered_streams.ensures r.unordered_streams _ fits.unordered_streams ordered_streams_is.1 in
    (λ j. record { seen_packet = (ap (λ (t : Bool × Bool × Bool × Bool). t.0) seen_packet_is.0) j; last_cumulative_acked_tsn = last_cumulative_acked_tsn_is.0 j; last_assembled_tsn = last_assembled_tsn_is.0 j; last_completed_deferred_reset_req_sn = last_completed_deferred_reset_req_sn_is.0 j; last_completed_reset_req_sn = last_completed_reset_req_sn_is.0 j; ordered_streams = (same_list _ ∙ ordered_streams_is.0) j; unordered_streams = (same_list _ ∙ unordered_streams_is.0) j }, unordered_streams_is.1)
