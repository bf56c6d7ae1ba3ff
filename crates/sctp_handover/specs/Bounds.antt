-- Which records can be written: each number is one of its field.
use Rattle.std.specs.Prelude.{ℕ, ℤ, ◌<◌, ◌^◌, Option, None, Some, IfSome, List, FitsSigned, length, All}
use Rattle.std.specs.Int.{w32}
use Rattle.sctp_state.specs.Handover.{HandoverState, OutstandingData, Receive, StreamMessage, Transmission}
use Rattle.sctp_state.specs.declared.api.handover.HandoverCapabilities.{HandoverCapabilities}
use Rattle.sctp_state.specs.declared.api.handover.HandoverOrderedStream.{HandoverOrderedStream}
use Rattle.sctp_state.specs.declared.api.handover.HandoverOutgoingStream.{HandoverOutgoingStream}
use Rattle.sctp_state.specs.declared.api.handover.HandoverUnorderedStream.{HandoverUnorderedStream}

abbrev pub Is16 : ℕ → Type 0
Is16 n = n < 2 ^ 16

abbrev pub Is32 : ℕ → Type 0
Is32 n = n < 2 ^ 32

abbrev pub Is64 : ℕ → Type 0
Is64 n = n < 2 ^ 64

pub record MessageFits (m : StreamMessage) : Type 0 where
  pub stream_id : Is16 m.stream_id
  pub max_retransmissions : Is16 m.max_retransmissions
  pub ssn : IfSome m.ssn Is16
  pub ppid : Is32 m.ppid
  pub mid : IfSome m.mid Is32
  pub fsn : Is32 m.fsn
  pub expires_in_ms : IfSome m.expires_in_ms (FitsSigned w32)
  pub lifecycle_id : Is64 m.lifecycle_id
  pub message_id : Is64 m.message_id
  pub remaining_offset : Is64 m.remaining_offset
  pub payload : Is64 (length m.payload)

pub record DataFits (d : OutstandingData) : Type 0 where
  pub stream_id : Is16 d.stream_id
  pub ssn : Is16 d.ssn
  pub max_retransmissions : Is16 d.max_retransmissions
  pub retransmission_count : Is16 d.retransmission_count
  pub mid : Is32 d.mid
  pub fsn : Is32 d.fsn
  pub ppid : Is32 d.ppid
  pub expires_in_ms : IfSome d.expires_in_ms (FitsSigned w32)
  pub time_since_sent_ms : FitsSigned w32 d.time_since_sent_ms
  pub lifecycle_id : Is64 d.lifecycle_id
  pub message_id : Is64 d.message_id
  pub payload : Is64 (length d.payload)

pub record OutgoingFits (s : HandoverOutgoingStream) : Type 0 where
  pub id : Is16 s.id
  pub next_ssn : Is16 s.next_ssn
  pub next_unordered_mid : Is32 s.next_unordered_mid
  pub next_ordered_mid : Is32 s.next_ordered_mid
  pub priority : Is16 s.priority

pub record OrderedFits (s : HandoverOrderedStream) : Type 0 where
  pub id : Is16 s.id
  pub next_ssn : Is32 s.next_ssn

abbrev pub UnorderedFits : HandoverUnorderedStream → Type 0
UnorderedFits s = Is16 s.id

pub record CapabilitiesFit (k : HandoverCapabilities) : Type 0 where
  pub incoming : Is16 k.negotiated_maximum_incoming_streams
  pub outgoing : Is16 k.negotiated_maximum_outgoing_streams

pub record ListFits {X : Type 0} (Fits : X → Type 0) (xs : List X) : Type 0 where
  pub few : Is64 (length xs)
  pub each : All Fits xs

pub record TransmissionFits (t : Transmission) : Type 0 where
  pub next_tsn : Is32 t.next_tsn
  pub last_cumulative_tsn_ack : Is32 t.last_cumulative_tsn_ack
  pub next_reset_req_sn : Is32 t.next_reset_req_sn
  pub cwnd : Is32 t.cwnd
  pub rwnd : Is32 t.rwnd
  pub ssthresh : Is32 t.ssthresh
  pub partial_bytes_acked : Is32 t.partial_bytes_acked
  pub next_outgoing_message_id : Is64 t.next_outgoing_message_id
  pub streams : ListFits OutgoingFits t.streams
  pub queued_messages : ListFits MessageFits t.queued_messages
  pub outstanding_data : ListFits DataFits t.outstanding_data

pub record ReceptionFits (r : Receive) : Type 0 where
  pub last_cumulative_acked_tsn : Is32 r.last_cumulative_acked_tsn
  pub last_assembled_tsn : Is32 r.last_assembled_tsn
  pub last_completed_deferred_reset_req_sn : Is32 r.last_completed_deferred_reset_req_sn
  pub last_completed_reset_req_sn : Is32 r.last_completed_reset_req_sn
  pub ordered_streams : ListFits OrderedFits r.ordered_streams
  pub unordered_streams : ListFits UnorderedFits r.unordered_streams

pub record RecordFits (s : HandoverState) : Type 0 where
  pub my_verification_tag : Is32 s.my_verification_tag
  pub my_initial_tsn : Is32 s.my_initial_tsn
  pub peer_verification_tag : Is32 s.peer_verification_tag
  pub peer_initial_tsn : Is32 s.peer_initial_tsn
  pub tie_tag : Is64 s.tie_tag
  pub capabilities : CapabilitiesFit s.capabilities
  pub tx : TransmissionFits s.tx
  pub rx : ReceptionFits s.rx
