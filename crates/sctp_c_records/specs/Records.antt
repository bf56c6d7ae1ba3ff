-- The records of C, as the socket's values: spans in nanoseconds, flags by their values.
use Rattle.std.specs.Prelude.{ℕ, ◌-◌, ◌<◌, ◌/◌, ◌%◌, ◌^◌, ◌==◌, Bool, true, false, Option, Some, None, List}
use Rattle.sctp_state.specs.Options.{Options, SendOptions, at_least_zero}
use Rattle.sctp_c_records.specs.Layout.{u32_or, u64_or}
use Rattle.sctp_c_records.specs.declared.checksum.PacketChecksum.{PacketChecksum}
use Rattle.sctp_c_records.specs.declared.checksum.PacketChecksum.TheVariants.{Crc32c, Zero}
use Rattle.sctp_c_records.specs.declared.options.OptionsRecord.{OptionsRecord}
use Rattle.sctp_c_records.specs.declared.message.SendRecord.{SendRecord}

abbrev pub has_flag : (flags value : ℕ) → Bool
has_flag flags value = flags / value % 2 == 1

-- a number unless a test holds
abbrev pub unless : Bool → ℕ → Option ℕ
unless true n = None
unless false n = Some n

abbrev pub if_set : Bool → ℕ → Option ℕ
if_set true n = Some n
if_set false n = None

-- the greatest number stands for "no limit", or "not set"
abbrev pub limit_at : ℕ → Option ℕ
limit_at n = unless (n == 2 ^ 32 - 1) n

abbrev pub span_at : ℕ → Option ℕ
span_at n = unless (n == 2 ^ 64 - 1) n

abbrev pub given_options : OptionsRecord → Options
given_options r = record {
  local_port = r.local_port;
  remote_port = r.remote_port;
  announced_maximum_incoming_streams = r.announced_maximum_incoming_streams;
  announced_maximum_outgoing_streams = r.announced_maximum_outgoing_streams;
  mtu = r.mtu;
  max_message_size = r.max_message_size;
  default_stream_priority = r.default_stream_priority;
  max_receiver_window_buffer_size = r.max_receiver_window_buffer_size;
  max_held_fragments = limit_at r.max_held_fragments;
  max_send_buffer_size = r.max_send_buffer_size;
  per_stream_send_queue_limit = r.per_stream_send_queue_limit;
  total_buffered_amount_low_threshold = r.total_buffered_amount_low_threshold;
  default_stream_buffered_amount_low_threshold = r.default_stream_buffered_amount_low_threshold;
  rtt_max = r.rtt_max;
  rto_initial = r.rto_initial;
  rto_max = r.rto_max;
  rto_min = r.rto_min;
  t1_init_timeout = r.t1_init_timeout;
  t1_cookie_timeout = r.t1_cookie_timeout;
  t2_shutdown_timeout = r.t2_shutdown_timeout;
  max_timer_backoff_duration = span_at r.max_timer_backoff_duration;
  heartbeat_interval = r.heartbeat_interval;
  delayed_ack_max_timeout = r.delayed_ack_max_timeout;
  min_rtt_variance = r.min_rtt_variance;
  cwnd_mtus_initial = r.cwnd_mtus_initial;
  cwnd_mtus_min = r.cwnd_mtus_min;
  avoid_fragmentation_cwnd_mtus = r.avoid_fragmentation_cwnd_mtus;
  immediate_sack_under_cwnd_mtus = r.immediate_sack_under_cwnd_mtus;
  max_burst = at_least_zero r.max_burst;
  max_retransmissions = limit_at r.max_retransmissions;
  max_init_retransmits = limit_at r.max_init_retransmits;
  enable_partial_reliability = has_flag r.flags 1;
  enable_message_interleaving = has_flag r.flags 2;
  heartbeat_interval_include_rtt = has_flag r.flags 16;
  zero_checksum_method = r.zero_checksum_method;
  disable_checksum_verification = has_flag r.flags 4;
  enable_handover_with_outstanding_data = has_flag r.flags 8;
  avoid_stalls = has_flag r.flags 32;
}

abbrev pub checksum_by : (is_zero : Bool) → PacketChecksum
checksum_by true = Crc32c
checksum_by false = Zero

abbrev pub given_checksum : OptionsRecord → PacketChecksum
given_checksum r = checksum_by (r.checksum == 0)

-- flags that there are, and a count of 16 bits
abbrev pub IsKnown : SendRecord → Type 0
IsKnown r = (r.flags < 8) × (r.max_retransmissions < 2 ^ 16)

-- how a message is sent; a number of 0 names no message
abbrev pub given_send_options : SendRecord → SendOptions
given_send_options r = record {
  unordered = has_flag r.flags 1;
  lifetime = if_set (has_flag r.flags 2) r.lifetime;
  max_retransmissions = if_set (has_flag r.flags 4) r.max_retransmissions;
  lifecycle_id = unless (r.lifecycle == 0) r.lifecycle;
}

-- the struct's numbers, each at its place; 0 where the struct ends before
abbrev pub send_in : List ℕ → SendRecord
send_in bytes = record { flags = u32_or 8 0 bytes; max_retransmissions = u32_or 12 0 bytes; lifetime = u64_or 16 0 bytes; lifecycle = u64_or 24 0 bytes }
