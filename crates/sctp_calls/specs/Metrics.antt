-- What an end counts, to be shown.
use Rattle.std.specs.Prelude.{ℕ, ◌+◌, ◌-◌, ◌^◌, min, Bool, Option, Some, None}
use Rattle.std.specs.Duration.{as_nanos}
use Rattle.std.specs.Int.{div_ceil}
use Rattle.sctp_state.specs.declared.api.SctpImplementation.{SctpImplementation}
use Rattle.sctp_state.specs.declared.api.Metrics as given
use Rattle.sctp_capabilities.specs.Capabilities.{zero_checksum_enabled}
use Rattle.sctp_state.specs.RetransmissionTimeout.{srtt}
use Rattle.sctp_tx_outstanding.specs.OutstandingData.{flight_items}
use Rattle.sctp_tx_queue.specs.SendQueue.{total_of}
use Rattle.spec_endpoint.specs.Association.{Tcb, State, Closed, CookieWait, Open}
use Rattle.sctp_endpoint.specs.Views.{ContextValue}

pub record Metrics : Type 0 where
  pub tx_packets : ℕ
  pub tx_messages : ℕ
  pub rtx_packets : ℕ
  pub rtx_bytes : ℕ
  pub cwnd : ℕ
  pub srtt : ℕ  -- in nanoseconds
  pub unack_data : ℕ
  pub rx_packets : ℕ
  pub rx_messages : ℕ
  pub peer_rwnd : ℕ
  pub peer : SctpImplementation
  pub is_interleaved : Bool
  pub is_unsummed : Bool
  pub incoming : ℕ
  pub outgoing : ℕ

abbrev pub metrics_of : given.Metrics → Metrics
metrics_of m = record {
  tx_packets = m.tx_packets_count;
  tx_messages = m.tx_messages_count;
  rtx_packets = m.rtx_packets_count;
  rtx_bytes = m.rtx_bytes_count;
  cwnd = m.cwnd_bytes;
  srtt = as_nanos m.srtt;
  unack_data = m.unack_data_count;
  rx_packets = m.rx_packets_count;
  rx_messages = m.rx_messages_count;
  peer_rwnd = m.peer_rwnd_bytes;
  peer = m.peer_implementation;
  is_interleaved = m.uses_message_interleaving;
  is_unsummed = m.uses_zero_checksum;
  incoming = m.negotiated_maximum_incoming_streams;
  outgoing = m.negotiated_maximum_outgoing_streams;
}

-- how many packets these bytes would fill, each with a header and one DATA chunk, rounded up
abbrev pub packets_for : (bytes mtu : ℕ) → ℕ
packets_for bytes mtu = div_ceil bytes (mtu - 28)

-- counts stop at the greatest number of their type
abbrev pub metrics : {C : Type 0} → Tcb → ContextValue C → Metrics
metrics t c = record {
  tx_packets = c.counts.tx_packets;
  tx_messages = c.counts.tx_messages;
  rtx_packets = t.sender.rtx_packets;
  rtx_bytes = t.sender.rtx_bytes;
  cwnd = t.sender.windows.cwnd;
  srtt = srtt t.rtt;
  unack_data = min (flight_items t.sender.outstanding.items + packets_for (total_of c.queue.streams.entries) c.options.mtu) (2 ^ 64 - 1);
  rx_packets = c.counts.rx_packets;
  rx_messages = t.reassembly.ready_count;
  peer_rwnd = min t.sender.windows.rwnd (2 ^ 32 - 1);
  peer = c.peer;
  is_interleaved = t.capabilities.message_interleaving;
  is_unsummed = zero_checksum_enabled t.capabilities;
  incoming = t.capabilities.incoming;
  outgoing = t.capabilities.outgoing;
}

-- none without a control block
abbrev pub metrics_in : {C : Type 0} → State → ContextValue C → Option Metrics
metrics_in Closed c = None
metrics_in (CookieWait tag first t1) c = None
metrics_in (Open phase t) c = Some (metrics t c)
