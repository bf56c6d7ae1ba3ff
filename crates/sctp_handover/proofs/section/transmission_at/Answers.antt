use Rattle.std.proofs.Common.{◌∙◌}
use Rattle.sctp_handover.proofs.PartLemmas.{same_list}
use Rattle.sctp_handover.proofs.OpenLemmas.{opened_transmission}
use Rattle.sctp_handover.proofs.section.transmission_at.Goals as goal

pub returns : goal.returns
returns c = λ t after fits e.
    let opened = e ∙ opened_transmission t after in
    let next_tsn_is = c.number32_at-next_tsn.ensures t.next_tsn _ fits.next_tsn opened in
    let last_cumulative_tsn_ack_is = c.number32_at-last_cumulative_tsn_ack.ensures t.last_cumulative_tsn_ack _ fits.last_cumulative_tsn_ack next_tsn_is.1 in
    let next_reset_req_sn_is = c.number32_at-next_reset_req_sn.ensures t.next_reset_req_sn _ fits.next_reset_req_sn last_cumulative_tsn_ack_is.1 in
    let cwnd_is = c.number32_at-cwnd.ensures t.cwnd _ fits.cwnd next_reset_req_sn_is.1 in
    let rwnd_is = c.number32_at-rwnd.ensures t.rwnd _ fits.rwnd cwnd_is.1 in
    let ssthresh_is = c.number32_at-ssthresh.ensures t.ssthresh _ fits.ssthresh rwnd_is.1 in
    let partial_bytes_acked_is = c.number32_at-partial_bytes_acked.ensures t.partial_bytes_acked _ fits.partial_bytes_acked ssthresh_is.1 in
    let next_outgoing_message_id_is = c.number64_at-next_outgoing_message_id.ensures t.next_outgoing_message_id _ fits.next_outgoing_message_id partial_bytes_acked_is.1 in
    let streams_is = c.in_ok-streams.ensures t.streams _ fits.streams next_outgoing_message_id_is.1 in
    let queued_messages_is = c.in_ok-queued_messages.ensures t.queued_messages _ fits.queued_messages streams_is.1 in
    let outstanding_data_is = c.in_ok-outstanding_data.ensures t.outstanding_data _ fits.outstanding_data queued_messages_is.1 in
    (λ j. record { next_tsn = next_tsn_is.0 j; last_cumulative_tsn_ack = last_cumulative_tsn_ack_is.0 j; next_reset_req_sn = next_reset_req_sn_is.0 j; cwnd = cwnd_is.0 j; rwnd = rwnd_is.0 j; ssthresh = ssthresh_is.0 j; partial_bytes_acked = partial_bytes_acked_is.0 j; next_outgoing_message_id = next_outgoing_message_id_is.0 j; streams = (same_list _ ∙ streams_is.0) j; queued_messages = queued_messages_is.0 j; outstanding_data = outstanding_data_is.0 j }, outstanding_data_is.1)
