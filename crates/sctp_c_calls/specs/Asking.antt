-- What C sees of what a socket counts, and of its options.
use Rattle.std.specs.Prelude.{◌≡◌, ℕ, Option, Some, None, List, ◌-◌, ◌^◌, min}
use Rattle.sctp_calls.specs.Metrics.{Metrics}
use Rattle.sctp_c_records.specs.Metrics.{implementation_number, metrics_bytes}
use Rattle.sctp_c_records.specs.OptionsStruct.{held_options, options_bytes}
use Rattle.sctp_c_records.specs.Records.{given_checksum, given_options}
use Rattle.sctp_c_records.specs.declared.checksum.PacketChecksum.{PacketChecksum}
use Rattle.sctp_c_records.specs.declared.options.OptionsRecord.{OptionsRecord}
use Rattle.sctp_endpoint.specs.Views.{ContextValue}
use Rattle.sctp_c_records.specs.declared.metrics.MetricsRecord.{MetricsRecord}

abbrev pub shown_metrics : Metrics → MetricsRecord
shown_metrics m = record {
  tx_packets_count = m.tx_packets;
  tx_messages_count = m.tx_messages;
  rtx_packets_count = m.rtx_packets;
  rtx_bytes_count = m.rtx_bytes;
  cwnd_bytes = m.cwnd;
  srtt = min m.srtt (2 ^ 64 - 1);
  unack_data_count = m.unack_data;
  rx_packets_count = m.rx_packets;
  rx_messages_count = m.rx_messages;
  peer_rwnd_bytes = m.peer_rwnd;
  peer_implementation = implementation_number m.peer;
  negotiated_maximum_incoming_streams = m.incoming;
  negotiated_maximum_outgoing_streams = m.outgoing;
  uses_message_interleaving = m.is_interleaved;
  uses_zero_checksum = m.is_unsummed;
}

-- the struct was written of these counts
abbrev pub ShowsMetrics : (old new : List ℕ) → Option MetricsRecord → Type 0
ShowsMetrics old new None = ⊥
ShowsMetrics old new (Some m) = new ≡ metrics_bytes m old

-- the struct was written of a record that stands for these options and this checksum
pub record ShowsOptions (c : ContextValue PacketChecksum) (old new : List ℕ) : Type 0 where
  pub shown : OptionsRecord
  pub options : given_options shown ≡ held_options c.options
  pub checksum : given_checksum shown ≡ c.checksum
  pub written : new ≡ options_bytes shown old
