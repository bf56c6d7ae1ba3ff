-- What C sees of what a socket counts.
use Rattle.std.specs.Prelude.{ℕ, ◌-◌, ◌^◌, min, Bool, true, false, List, [], ◌∷◌}
use Rattle.std.specs.Duration.{as_nanos}
use Rattle.sctp_state.specs.declared.api.Metrics.{Metrics}
use Rattle.sctp_state.specs.declared.api.SctpImplementation.{SctpImplementation}
use Rattle.sctp_state.specs.declared.api.SctpImplementation.TheVariants as peers
use Rattle.sctp_c_records.specs.Layout.{in_turn, put_u8, put_u16, put_u32, put_u64}
use Rattle.sctp_c_records.specs.declared.metrics.MetricsRecord.{MetricsRecord}

abbrev pub implementation_number : SctpImplementation → ℕ
implementation_number peers.Unknown = 0
implementation_number peers.DcsctpRs = 1
implementation_number peers.DcsctpCc = 2
implementation_number peers.UsrSctp = 3
implementation_number peers.Other = 4

-- the same counts; a round trip of more nanoseconds than 64 bits hold is the greatest number
abbrev pub metrics_record : Metrics → MetricsRecord
metrics_record m = record {
  tx_packets_count = m.tx_packets_count;
  tx_messages_count = m.tx_messages_count;
  rtx_packets_count = m.rtx_packets_count;
  rtx_bytes_count = m.rtx_bytes_count;
  cwnd_bytes = m.cwnd_bytes;
  srtt = min (as_nanos m.srtt) (2 ^ 64 - 1);
  unack_data_count = m.unack_data_count;
  rx_packets_count = m.rx_packets_count;
  rx_messages_count = m.rx_messages_count;
  peer_rwnd_bytes = m.peer_rwnd_bytes;
  peer_implementation = implementation_number m.peer_implementation;
  negotiated_maximum_incoming_streams = m.negotiated_maximum_incoming_streams;
  negotiated_maximum_outgoing_streams = m.negotiated_maximum_outgoing_streams;
  uses_message_interleaving = m.uses_message_interleaving;
  uses_zero_checksum = m.uses_zero_checksum;
}

abbrev pub one_if : Bool → ℕ
one_if true = 1
one_if false = 0

-- the struct of C, behind its size
abbrev pub metrics_bytes : MetricsRecord → List ℕ → List ℕ
metrics_bytes m = in_turn (
    put_u64 8 m.tx_packets_count ∷ put_u64 16 m.tx_messages_count ∷ put_u64 24 m.rtx_packets_count ∷ put_u64 32 m.rtx_bytes_count ∷
    put_u64 40 m.cwnd_bytes ∷ put_u64 48 m.srtt ∷ put_u64 56 m.unack_data_count ∷ put_u64 64 m.rx_packets_count ∷
    put_u64 72 m.rx_messages_count ∷ put_u32 80 m.peer_rwnd_bytes ∷ put_u32 84 m.peer_implementation ∷
    put_u16 88 m.negotiated_maximum_incoming_streams ∷ put_u16 90 m.negotiated_maximum_outgoing_streams ∷
    put_u8 92 (one_if m.uses_message_interleaving) ∷ put_u8 93 (one_if m.uses_zero_checksum) ∷ [])
