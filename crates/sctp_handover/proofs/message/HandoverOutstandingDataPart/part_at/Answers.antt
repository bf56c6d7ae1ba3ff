use Rattle.std.proofs.Common.{Bool, ap, ◌∙◌, pos, is_some, unwrap_or}
use Rattle.sctp_handover.proofs.FieldLemmas.{there, through, or_zero_signed}
use Rattle.sctp_handover.proofs.OpenLemmas.{opened_data}
use Rattle.sctp_handover.proofs.message.HandoverOutstandingDataPart.part_at.Goals as goal

pub returns : goal.returns
returns c = λ d after fits e.
    let opened = e ∙ opened_data d after in
    let is_unordered_is = c.flags_at-is_unordered.ensures d.is_unordered (is_some d.expires_in_ms) d.is_beginning d.is_end _ opened in
    let acked_is = c.flags_at-acked.ensures d.acked d.is_abandoned d.is_nacked d.is_to_be_retransmitted _ is_unordered_is.1 in
    let stream_id_is = c.number16_at-stream_id.ensures d.stream_id _ fits.stream_id acked_is.1 in
    let ssn_is = c.number16_at-ssn.ensures d.ssn _ fits.ssn stream_id_is.1 in
    let max_retransmissions_is = c.number16_at-max_retransmissions.ensures d.max_retransmissions _ fits.max_retransmissions ssn_is.1 in
    let retransmission_count_is = c.number16_at-retransmission_count.ensures d.retransmission_count _ fits.retransmission_count max_retransmissions_is.1 in
    let mid_is = c.number32_at-mid.ensures d.mid _ fits.mid retransmission_count_is.1 in
    let fsn_is = c.number32_at-fsn.ensures d.fsn _ fits.fsn mid_is.1 in
    let ppid_is = c.number32_at-ppid.ensures d.ppid _ fits.ppid fsn_is.1 in
    let millis_is = c.signed_at-millis.ensures (unwrap_or d.expires_in_ms (pos 0)) _ (or_zero_signed d.expires_in_ms fits.expires_in_ms) ppid_is.1 in
    let time_since_sent_ms_is = c.signed_at-time_since_sent_ms.ensures d.time_since_sent_ms _ fits.time_since_sent_ms millis_is.1 in
    let lifecycle_id_is = c.number64_at-lifecycle_id.ensures d.lifecycle_id _ fits.lifecycle_id time_since_sent_ms_is.1 in
    let message_id_is = c.number64_at-message_id.ensures d.message_id _ fits.message_id lifecycle_id_is.1 in
    let payload_is = c.in_ok-payload.ensures d.payload _ fits.payload message_id_is.1 in
    (λ j. record { mid = mid_is.0 j; stream_id = stream_id_is.0 j; ssn = ssn_is.0 j; fsn = fsn_is.0 j; ppid = ppid_is.0 j; payload = payload_is.0 j; max_retransmissions = max_retransmissions_is.0 j; lifecycle_id = lifecycle_id_is.0 j; time_since_sent_ms = (through _ _ fits.time_since_sent_ms time_since_sent_ms_is.0) j; retransmission_count = retransmission_count_is.0 j; message_id = message_id_is.0 j; expires_in_ms = (c.some_if.ensures ∙ there _ _ (pos 0) d.expires_in_ms (ap (λ (t : Bool × Bool × Bool × Bool). t.1) is_unordered_is.0) (through _ _ (or_zero_signed d.expires_in_ms fits.expires_in_ms) millis_is.0)) j; is_unordered = (ap (λ (t : Bool × Bool × Bool × Bool). t.0) is_unordered_is.0) j; is_beginning = (ap (λ (t : Bool × Bool × Bool × Bool). t.2) is_unordered_is.0) j; is_end = (ap (λ (t : Bool × Bool × Bool × Bool). t.3) is_unordered_is.0) j; acked = (ap (λ (t : Bool × Bool × Bool × Bool). t.0) acked_is.0) j; is_abandoned = (ap (λ (t : Bool × Bool × Bool × Bool). t.1) acked_is.0) j; is_nacked = (ap (λ (t : Bool × Bool × Bool × Bool). t.2) acked_is.0) j; is_to_be_retransmitted = (ap (λ (t : Bool × Bool × Bool × Bool). t.3) acked_is.0) j }, payload_is.1)
