-- Bytes with something behind them, and bytes that are written, field by field.
use Rattle.std.proofs.Common.{◌≡◌, ℕ, ℤ, pos, Bool, false, is_some, unwrap_or, List, [], ◌∷◌, ◌++◌, map, refl, sym, append_assoc, append-nil}
use Rattle.std.specs.Int.{w32, cast_unsigned}
use Rattle.std.specs.List.{flat_map}
use Rattle.sctp_wire.specs.Field.{be16, be32, be64}
use Rattle.sctp_state.specs.Handover.{HandoverState, OutstandingData, Receive, StreamMessage, Transmission}
use Rattle.sctp_state.specs.declared.api.handover.HandoverCapabilities.{HandoverCapabilities}
use Rattle.sctp_state.specs.declared.api.handover.HandoverOrderedStream.{HandoverOrderedStream}
use Rattle.sctp_state.specs.declared.api.handover.HandoverOutgoingStream.{HandoverOutgoingStream}
use Rattle.sctp_state.specs.declared.api.handover.HandoverUnorderedStream.{HandoverUnorderedStream}
use Rattle.sctp_handover.proofs.PartLemmas.{same_list}
use Rattle.sctp_handover.specs.Bytes.{capability_bytes, data_bytes, flag_bytes, is_connected, list_bytes, message_bytes, ordered_bytes, outgoing_bytes, payload_bytes, reception_bytes, record_bytes, signed_bytes, transmission_bytes, unordered_bytes}

pub opened_outgoing : (s : HandoverOutgoingStream) (after : List ℕ) → outgoing_bytes s ++ after ≡ be16 s.id ++ (be16 s.next_ssn ++ (be32 s.next_unordered_mid ++ (be32 s.next_ordered_mid ++ (be16 s.priority ++ after))))
unfolding outgoing_bytes
opened_outgoing s after = simp append_assoc

pub opened_ordered : (s : HandoverOrderedStream) (after : List ℕ) → ordered_bytes s ++ after ≡ be16 s.id ++ (be32 s.next_ssn ++ after)
unfolding ordered_bytes
opened_ordered s after = simp append_assoc

pub opened_unordered : (s : HandoverUnorderedStream) (after : List ℕ) → unordered_bytes s ++ after ≡ be16 s.id ++ after
unfolding unordered_bytes
opened_unordered s after = refl

pub opened_message : (m : StreamMessage) (after : List ℕ) → message_bytes m ++ after ≡ flag_bytes m.unordered (is_some m.expires_in_ms) (is_some m.mid) (is_some m.ssn) ++ (be16 m.stream_id ++ (be16 m.max_retransmissions ++ (be16 (unwrap_or m.ssn 0) ++ (be32 m.ppid ++ (be32 (unwrap_or m.mid 0) ++ (be32 m.fsn ++ (signed_bytes (unwrap_or m.expires_in_ms (pos 0)) ++ (be64 m.lifecycle_id ++ (be64 m.message_id ++ (be64 m.remaining_offset ++ (payload_bytes m.payload ++ after)))))))))))
unfolding message_bytes
opened_message m after = simp append_assoc

pub opened_data : (d : OutstandingData) (after : List ℕ) → data_bytes d ++ after ≡ flag_bytes d.is_unordered (is_some d.expires_in_ms) d.is_beginning d.is_end ++ (flag_bytes d.acked d.is_abandoned d.is_nacked d.is_to_be_retransmitted ++ (be16 d.stream_id ++ (be16 d.ssn ++ (be16 d.max_retransmissions ++ (be16 d.retransmission_count ++ (be32 d.mid ++ (be32 d.fsn ++ (be32 d.ppid ++ (signed_bytes (unwrap_or d.expires_in_ms (pos 0)) ++ (signed_bytes d.time_since_sent_ms ++ (be64 d.lifecycle_id ++ (be64 d.message_id ++ (payload_bytes d.payload ++ after)))))))))))))
unfolding data_bytes
opened_data d after = simp append_assoc

pub opened_capability : (k : HandoverCapabilities) (after : List ℕ) → capability_bytes k ++ after ≡ flag_bytes k.partial_reliability k.message_interleaving k.reconfig k.zero_checksum ++ (be16 k.negotiated_maximum_incoming_streams ++ (be16 k.negotiated_maximum_outgoing_streams ++ after))
unfolding capability_bytes
opened_capability k after = simp append_assoc

pub opened_transmission : (t : Transmission) (after : List ℕ) → transmission_bytes t ++ after ≡ be32 t.next_tsn ++ (be32 t.last_cumulative_tsn_ack ++ (be32 t.next_reset_req_sn ++ (be32 t.cwnd ++ (be32 t.rwnd ++ (be32 t.ssthresh ++ (be32 t.partial_bytes_acked ++ (be64 t.next_outgoing_message_id ++ (list_bytes outgoing_bytes t.streams ++ (list_bytes message_bytes t.queued_messages ++ (list_bytes data_bytes t.outstanding_data ++ after))))))))))
unfolding transmission_bytes
opened_transmission t after = simp append_assoc

pub opened_reception : (r : Receive) (after : List ℕ) → reception_bytes r ++ after ≡ flag_bytes r.seen_packet false false false ++ (be32 r.last_cumulative_acked_tsn ++ (be32 r.last_assembled_tsn ++ (be32 r.last_completed_deferred_reset_req_sn ++ (be32 r.last_completed_reset_req_sn ++ (list_bytes ordered_bytes r.ordered_streams ++ (list_bytes unordered_bytes r.unordered_streams ++ after))))))
unfolding reception_bytes
opened_reception r after = simp append_assoc

pub opened_record : (h : HandoverState) → record_bytes h ≡ be32 1 ++ (flag_bytes (is_connected h.socket_state) false false false ++ (be32 h.my_verification_tag ++ (be32 h.my_initial_tsn ++ (be32 h.peer_verification_tag ++ (be32 h.peer_initial_tsn ++ (be64 h.tie_tag ++ (capability_bytes h.capabilities ++ (reception_bytes h.rx ++ (transmission_bytes h.tx ++ [])))))))))
unfolding record_bytes
opened_record h = simp append-nil

pub message_written : (m : StreamMessage) (o w0 w1 w2 w3 w4 : List ℕ) (expires has_mid has_ssn : Bool) (ssn mid bits : ℕ) (millis : ℤ) (payload : List ℕ)
    → expires ≡ is_some m.expires_in_ms → has_mid ≡ is_some m.mid → has_ssn ≡ is_some m.ssn → ssn ≡ unwrap_or m.ssn 0 → mid ≡ unwrap_or m.mid 0
    → millis ≡ unwrap_or m.expires_in_ms (pos 0) → bits ≡ cast_unsigned w32 millis → payload ≡ m.payload
    → w0 ≡ o ++ flag_bytes m.unordered expires has_mid has_ssn
    → w1 ≡ w0 ++ flat_map be16 (m.stream_id ∷ m.max_retransmissions ∷ ssn ∷ [])
    → w2 ≡ w1 ++ flat_map be32 (m.ppid ∷ mid ∷ m.fsn ∷ bits ∷ [])
    → w3 ≡ w2 ++ flat_map be64 (m.lifecycle_id ∷ m.message_id ∷ m.remaining_offset ∷ [])
    → w4 ≡ w3 ++ payload_bytes payload
    → w4 ≡ o ++ message_bytes m
unfolding message_bytes signed_bytes
message_written m o w0 w1 w2 w3 w4 expires has_mid has_ssn ssn mid bits millis payload q0 q1 q2 q3 q4 q5 q6 q7 e0 e1 e2 e3 e4 =
    rw (e4, e3, e2, e1, e0, q0, q1, q2, q3, q4, q6, q5, q7) (simp (append_assoc, append-nil))

pub data_written : (d : OutstandingData) (o w0 w1 w2 w3 w4 w5 : List ℕ) (expires : Bool) (bits sent_bits : ℕ) (millis sent : ℤ) (payload : List ℕ)
    → expires ≡ is_some d.expires_in_ms → millis ≡ unwrap_or d.expires_in_ms (pos 0) → bits ≡ cast_unsigned w32 millis → sent ≡ d.time_since_sent_ms → sent_bits ≡ cast_unsigned w32 sent → payload ≡ d.payload
    → w0 ≡ o ++ flag_bytes d.is_unordered expires d.is_beginning d.is_end
    → w1 ≡ w0 ++ flag_bytes d.acked d.is_abandoned d.is_nacked d.is_to_be_retransmitted
    → w2 ≡ w1 ++ flat_map be16 (d.stream_id ∷ d.ssn ∷ d.max_retransmissions ∷ d.retransmission_count ∷ [])
    → w3 ≡ w2 ++ flat_map be32 (d.mid ∷ d.fsn ∷ d.ppid ∷ bits ∷ sent_bits ∷ [])
    → w4 ≡ w3 ++ flat_map be64 (d.lifecycle_id ∷ d.message_id ∷ [])
    → w5 ≡ w4 ++ payload_bytes payload
    → w5 ≡ o ++ data_bytes d
unfolding data_bytes signed_bytes
data_written d o w0 w1 w2 w3 w4 w5 expires bits sent_bits millis sent payload q0 q1 q2 q3 q4 q5 e0 e1 e2 e3 e4 e5 =
    rw (e5, e4, e3, e2, e1, e0, q0, q2, q1, q4, q3, q5) (simp (append_assoc, append-nil))

pub outgoing_written : (s : HandoverOutgoingStream) (o w0 w1 w2 : List ℕ)
    → w0 ≡ o ++ flat_map be16 (s.id ∷ s.next_ssn ∷ [])
    → w1 ≡ w0 ++ flat_map be32 (s.next_unordered_mid ∷ s.next_ordered_mid ∷ [])
    → w2 ≡ w1 ++ be16 s.priority
    → w2 ≡ o ++ outgoing_bytes s
unfolding outgoing_bytes
outgoing_written s o w0 w1 w2 e0 e1 e2 = rw (e2, e1, e0) (simp (append_assoc, append-nil))

pub capabilities_written : (k : HandoverCapabilities) (o w0 w1 : List ℕ)
    → w0 ≡ o ++ flag_bytes k.partial_reliability k.message_interleaving k.reconfig k.zero_checksum
    → w1 ≡ w0 ++ flat_map be16 (k.negotiated_maximum_incoming_streams ∷ k.negotiated_maximum_outgoing_streams ∷ [])
    → w1 ≡ o ++ capability_bytes k
unfolding capability_bytes
capabilities_written k o w0 w1 e0 e1 = rw (e1, e0) (simp (append_assoc, append-nil))

pub transmission_written : (t : Transmission) (o w0 w1 w2 w3 w4 : List ℕ) (streams : List HandoverOutgoingStream) (queued : List StreamMessage) (outstanding : List OutstandingData)
    → streams ≡ t.streams → queued ≡ t.queued_messages → outstanding ≡ t.outstanding_data
    → w0 ≡ o ++ flat_map be32 (t.next_tsn ∷ t.last_cumulative_tsn_ack ∷ t.next_reset_req_sn ∷ t.cwnd ∷ t.rwnd ∷ t.ssthresh ∷ t.partial_bytes_acked ∷ [])
    → w1 ≡ w0 ++ be64 t.next_outgoing_message_id
    → w2 ≡ w1 ++ list_bytes outgoing_bytes (map (λ s. s) streams)
    → w3 ≡ w2 ++ list_bytes message_bytes queued
    → w4 ≡ w3 ++ list_bytes data_bytes outstanding
    → w4 ≡ o ++ transmission_bytes t
unfolding transmission_bytes
transmission_written t o w0 w1 w2 w3 w4 streams queued outstanding q0 q1 q2 e0 e1 e2 e3 e4 =
    rw (e4, e3, e2, e1, e0, sym (same_list streams), q0, q1, q2) (simp (append_assoc, append-nil))

pub reception_written : (r : Receive) (o w0 w1 w2 w3 : List ℕ) (ordered : List HandoverOrderedStream) (unordered : List HandoverUnorderedStream)
    → ordered ≡ r.ordered_streams → unordered ≡ r.unordered_streams
    → w0 ≡ o ++ flag_bytes r.seen_packet false false false
    → w1 ≡ w0 ++ flat_map be32 (r.last_cumulative_acked_tsn ∷ r.last_assembled_tsn ∷ r.last_completed_deferred_reset_req_sn ∷ r.last_completed_reset_req_sn ∷ [])
    → w2 ≡ w1 ++ list_bytes ordered_bytes (map (λ s. s) ordered)
    → w3 ≡ w2 ++ list_bytes unordered_bytes (map (λ s. s) unordered)
    → w3 ≡ o ++ reception_bytes r
unfolding reception_bytes
reception_written r o w0 w1 w2 w3 ordered unordered q0 q1 e0 e1 e2 e3 =
    rw (e3, e2, e1, e0, sym (same_list ordered), sym (same_list unordered), q0, q1) (simp (append_assoc, append-nil))

pub record_written : (h : HandoverState) (o w0 w1 w2 w3 w4 w5 w6 : List ℕ) (connected : Bool)
    → connected ≡ is_connected h.socket_state
    → w0 ≡ o ++ be32 1
    → w1 ≡ w0 ++ flag_bytes connected false false false
    → w2 ≡ w1 ++ flat_map be32 (h.my_verification_tag ∷ h.my_initial_tsn ∷ h.peer_verification_tag ∷ h.peer_initial_tsn ∷ [])
    → w3 ≡ w2 ++ be64 h.tie_tag
    → w4 ≡ w3 ++ capability_bytes h.capabilities
    → w5 ≡ w4 ++ reception_bytes h.rx
    → w6 ≡ w5 ++ transmission_bytes h.tx
    → w6 ≡ o ++ record_bytes h
unfolding record_bytes
record_written h o w0 w1 w2 w3 w4 w5 w6 connected q0 e0 e1 e2 e3 e4 e5 e6 =
    rw (e6, e5, e4, e3, e2, e1, e0, q0) (simp (append_assoc, append-nil))
