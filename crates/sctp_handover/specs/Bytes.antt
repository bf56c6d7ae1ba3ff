-- A record of a socket that is handed over, as bytes: each number with its most significant byte first, each list and each payload behind
-- its length in eight bytes. What isn't there is written as 0, and a flag tells it from a 0 that is.
use Rattle.std.specs.Prelude.{ℕ, ℤ, pos, Bool, true, false, Option, List, [], ◌∷◌, ◌++◌, length, is_some, unwrap_or}
use Rattle.std.specs.Int.{w32, cast_unsigned}
use Rattle.std.specs.List.{flat_map}
use Rattle.sctp_wire.specs.Field.{be16, be32, be64}
use Rattle.sctp_state.specs.Handover.{HandoverState, OutstandingData, Receive, StreamMessage, Transmission}
use Rattle.sctp_state.specs.declared.api.handover.HandoverCapabilities.{HandoverCapabilities}
use Rattle.sctp_state.specs.declared.api.handover.HandoverSocketState.{HandoverSocketState}
use Rattle.sctp_state.specs.declared.api.handover.HandoverSocketState.TheVariants.{Closed, Connected}
use Rattle.sctp_state.specs.declared.api.handover.HandoverOrderedStream.{HandoverOrderedStream}
use Rattle.sctp_state.specs.declared.api.handover.HandoverOutgoingStream.{HandoverOutgoingStream}
use Rattle.sctp_state.specs.declared.api.handover.HandoverUnorderedStream.{HandoverUnorderedStream}

abbrev pub flag_byte : Bool → ℕ
flag_byte true = 1
flag_byte false = 0

unfoldable pub flag_bytes : Bool → Bool → Bool → Bool → List ℕ
flag_bytes a b c d = flag_byte a ∷ flag_byte b ∷ flag_byte c ∷ flag_byte d ∷ []

-- in two's complement
unfoldable pub signed_bytes : ℤ → List ℕ
signed_bytes z = be32 (cast_unsigned w32 z)

unfoldable pub payload_bytes : List ℕ → List ℕ
payload_bytes payload = be64 (length payload) ++ payload

unfoldable pub list_bytes : {X : Type 0} → (X → List ℕ) → List X → List ℕ
list_bytes spelled xs = be64 (length xs) ++ flat_map spelled xs

unfoldable pub message_bytes : StreamMessage → List ℕ
message_bytes m =
    flag_bytes m.unordered (is_some m.expires_in_ms) (is_some m.mid) (is_some m.ssn)
    ++ (be16 m.stream_id ++ (be16 m.max_retransmissions ++ (be16 (unwrap_or m.ssn 0)
    ++ (be32 m.ppid ++ (be32 (unwrap_or m.mid 0) ++ (be32 m.fsn ++ (signed_bytes (unwrap_or m.expires_in_ms (pos 0))
    ++ (be64 m.lifecycle_id ++ (be64 m.message_id ++ (be64 m.remaining_offset ++ payload_bytes m.payload))))))))))

unfoldable pub data_bytes : OutstandingData → List ℕ
data_bytes d =
    flag_bytes d.is_unordered (is_some d.expires_in_ms) d.is_beginning d.is_end
    ++ (flag_bytes d.acked d.is_abandoned d.is_nacked d.is_to_be_retransmitted
    ++ (be16 d.stream_id ++ (be16 d.ssn ++ (be16 d.max_retransmissions ++ (be16 d.retransmission_count
    ++ (be32 d.mid ++ (be32 d.fsn ++ (be32 d.ppid
    ++ (signed_bytes (unwrap_or d.expires_in_ms (pos 0)) ++ (signed_bytes d.time_since_sent_ms
    ++ (be64 d.lifecycle_id ++ (be64 d.message_id ++ payload_bytes d.payload))))))))))))

unfoldable pub outgoing_bytes : HandoverOutgoingStream → List ℕ
outgoing_bytes s = be16 s.id ++ (be16 s.next_ssn ++ (be32 s.next_unordered_mid ++ (be32 s.next_ordered_mid ++ be16 s.priority)))

unfoldable pub ordered_bytes : HandoverOrderedStream → List ℕ
ordered_bytes s = be16 s.id ++ be32 s.next_ssn

unfoldable pub unordered_bytes : HandoverUnorderedStream → List ℕ
unordered_bytes s = be16 s.id

unfoldable pub capability_bytes : HandoverCapabilities → List ℕ
capability_bytes k =
    flag_bytes k.partial_reliability k.message_interleaving k.reconfig k.zero_checksum
    ++ (be16 k.negotiated_maximum_incoming_streams ++ be16 k.negotiated_maximum_outgoing_streams)

unfoldable pub transmission_bytes : Transmission → List ℕ
transmission_bytes t =
    be32 t.next_tsn ++ (be32 t.last_cumulative_tsn_ack ++ (be32 t.next_reset_req_sn
    ++ (be32 t.cwnd ++ (be32 t.rwnd ++ (be32 t.ssthresh ++ (be32 t.partial_bytes_acked ++ (be64 t.next_outgoing_message_id
    ++ (list_bytes outgoing_bytes t.streams ++ (list_bytes message_bytes t.queued_messages ++ list_bytes data_bytes t.outstanding_data)))))))))

unfoldable pub reception_bytes : Receive → List ℕ
reception_bytes r =
    flag_bytes r.seen_packet false false false
    ++ (be32 r.last_cumulative_acked_tsn ++ (be32 r.last_assembled_tsn ++ (be32 r.last_completed_deferred_reset_req_sn
    ++ (be32 r.last_completed_reset_req_sn
    ++ (list_bytes ordered_bytes r.ordered_streams ++ list_bytes unordered_bytes r.unordered_streams)))))

abbrev pub is_connected : HandoverSocketState → Bool
is_connected Closed = false
is_connected Connected = true

-- version 1
unfoldable pub record_bytes : HandoverState → List ℕ
record_bytes s =
    be32 1 ++ (flag_bytes (is_connected s.socket_state) false false false
    ++ (be32 s.my_verification_tag ++ (be32 s.my_initial_tsn ++ (be32 s.peer_verification_tag ++ (be32 s.peer_initial_tsn
    ++ (be64 s.tie_tag ++ (capability_bytes s.capabilities ++ (reception_bytes s.rx ++ transmission_bytes s.tx))))))))
