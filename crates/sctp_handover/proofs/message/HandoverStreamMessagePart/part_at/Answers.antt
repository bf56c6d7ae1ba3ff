use Rattle.std.proofs.Common.{Bool, ap, ◌∙◌, pos, arith, is_some, unwrap_or, ◌^◌}
use Rattle.sctp_handover.proofs.FieldLemmas.{there, through, or_zero_signed, or_zero}
use Rattle.sctp_handover.proofs.OpenLemmas.{opened_message}
use Rattle.sctp_handover.proofs.message.HandoverStreamMessagePart.part_at.Goals as goal

pub returns : goal.returns
returns c = λ m after fits e.
    let opened = e ∙ opened_message m after in
    let unordered_is = c.flags_at-unordered.ensures m.unordered (is_some m.expires_in_ms) (is_some m.mid) (is_some m.ssn) _ opened in
    let stream_id_is = c.number16_at-stream_id.ensures m.stream_id _ fits.stream_id unordered_is.1 in
    let max_retransmissions_is = c.number16_at-max_retransmissions.ensures m.max_retransmissions _ fits.max_retransmissions stream_id_is.1 in
    let ssn_is = c.number16_at-ssn.ensures (unwrap_or m.ssn 0) _ (or_zero (2 ^ 16) m.ssn (omega arith) fits.ssn) max_retransmissions_is.1 in
    let ppid_is = c.number32_at-ppid.ensures m.ppid _ fits.ppid ssn_is.1 in
    let mid_is = c.number32_at-mid.ensures (unwrap_or m.mid 0) _ (or_zero (2 ^ 32) m.mid (omega arith) fits.mid) ppid_is.1 in
    let fsn_is = c.number32_at-fsn.ensures m.fsn _ fits.fsn mid_is.1 in
    let millis_is = c.signed_at-millis.ensures (unwrap_or m.expires_in_ms (pos 0)) _ (or_zero_signed m.expires_in_ms fits.expires_in_ms) fsn_is.1 in
    let lifecycle_id_is = c.number64_at-lifecycle_id.ensures m.lifecycle_id _ fits.lifecycle_id millis_is.1 in
    let message_id_is = c.number64_at-message_id.ensures m.message_id _ fits.message_id lifecycle_id_is.1 in
    let remaining_offset_is = c.number64_at-remaining_offset.ensures m.remaining_offset _ fits.remaining_offset message_id_is.1 in
    let payload_is = c.in_ok-payload.ensures m.payload _ fits.payload remaining_offset_is.1 in
    (λ j. record { stream_id = stream_id_is.0 j; ppid = ppid_is.0 j; payload = payload_is.0 j; max_retransmissions = max_retransmissions_is.0 j; lifecycle_id = lifecycle_id_is.0 j; message_id = message_id_is.0 j; remaining_offset = remaining_offset_is.0 j; fsn = fsn_is.0 j; unordered = (ap (λ (t : Bool × Bool × Bool × Bool). t.0) unordered_is.0) j; expires_in_ms = (c.some_if.ensures ∙ there _ _ (pos 0) m.expires_in_ms (ap (λ (t : Bool × Bool × Bool × Bool). t.1) unordered_is.0) (through _ _ (or_zero_signed m.expires_in_ms fits.expires_in_ms) millis_is.0)) j; mid = (c.some_if-2.ensures ∙ there _ _ 0 m.mid (ap (λ (t : Bool × Bool × Bool × Bool). t.2) unordered_is.0) mid_is.0) j; ssn = (c.some_if-3.ensures ∙ there _ _ 0 m.ssn (ap (λ (t : Bool × Bool × Bool × Bool). t.3) unordered_is.0) ssn_is.0) j }, payload_is.1)
