-- The options of C: their defaults, their struct, and what is wrong with them.
use Rattle.std.specs.Prelude.{ℕ, pos, ◌+◌, ◌-◌, ◌^◌, ◌*◌, nat_lt, min, Option, Some, None, Bool, true, false, if◌then◌else◌, ◌||◌, List, [], ◌∷◌}
use Rattle.std.specs.Int.{w32, cast_signed, cast_unsigned}
use Rattle.sctp_state.specs.Options.{Options, defaults}
use Rattle.sctp_c_records.specs.Layout.{in_turn, put_u16, put_u32, put_u64, u16_or, u32_or, u64_or}
use Rattle.sctp_c_records.specs.Records.{limit_at, span_at}
use Rattle.sctp_c_records.specs.declared.options.OptionsRecord.{OptionsRecord}

abbrev pub default_record : OptionsRecord
default_record = record {
  local_port = 5000;
  remote_port = 5000;
  announced_maximum_incoming_streams = 65535;
  announced_maximum_outgoing_streams = 65535;
  default_stream_priority = 256;
  checksum = 0;
  mtu = 1191;
  max_message_size = 262144;
  max_receiver_window_buffer_size = 5242880;
  max_held_fragments = 2 ^ 32 - 1;
  max_send_buffer_size = 2000000;
  per_stream_send_queue_limit = 2000000;
  total_buffered_amount_low_threshold = 1800000;
  default_stream_buffered_amount_low_threshold = 0;
  cwnd_mtus_initial = 10;
  cwnd_mtus_min = 4;
  avoid_fragmentation_cwnd_mtus = 6;
  immediate_sack_under_cwnd_mtus = 10;
  max_burst = pos 4;
  max_retransmissions = 10;
  max_init_retransmits = 8;
  zero_checksum_method = 0;
  flags = 17;
  rtt_max = 60000000000;
  rto_initial = 500000000;
  rto_max = 60000000000;
  rto_min = 400000000;
  t1_init_timeout = 1000000000;
  t1_cookie_timeout = 1000000000;
  t2_shutdown_timeout = 1000000000;
  max_timer_backoff_duration = 2 ^ 64 - 1;
  heartbeat_interval = 30000000000;
  delayed_ack_max_timeout = 200000000;
  min_rtt_variance = 220000000;
}

-- the struct's numbers, each at its place; where the struct ends before, the default
abbrev pub options_in : List ℕ → OptionsRecord
options_in bytes = record {
  local_port = u16_or 8 default_record.local_port bytes;
  remote_port = u16_or 10 default_record.remote_port bytes;
  announced_maximum_incoming_streams = u16_or 12 default_record.announced_maximum_incoming_streams bytes;
  announced_maximum_outgoing_streams = u16_or 14 default_record.announced_maximum_outgoing_streams bytes;
  default_stream_priority = u16_or 16 default_record.default_stream_priority bytes;
  checksum = u16_or 18 default_record.checksum bytes;
  mtu = u32_or 20 default_record.mtu bytes;
  max_message_size = u32_or 24 default_record.max_message_size bytes;
  max_receiver_window_buffer_size = u32_or 28 default_record.max_receiver_window_buffer_size bytes;
  max_send_buffer_size = u32_or 32 default_record.max_send_buffer_size bytes;
  per_stream_send_queue_limit = u32_or 36 default_record.per_stream_send_queue_limit bytes;
  total_buffered_amount_low_threshold = u32_or 40 default_record.total_buffered_amount_low_threshold bytes;
  default_stream_buffered_amount_low_threshold = u32_or 44 default_record.default_stream_buffered_amount_low_threshold bytes;
  cwnd_mtus_initial = u32_or 48 default_record.cwnd_mtus_initial bytes;
  cwnd_mtus_min = u32_or 52 default_record.cwnd_mtus_min bytes;
  avoid_fragmentation_cwnd_mtus = u32_or 56 default_record.avoid_fragmentation_cwnd_mtus bytes;
  immediate_sack_under_cwnd_mtus = u32_or 60 default_record.immediate_sack_under_cwnd_mtus bytes;
  max_burst = cast_signed w32 (u32_or 64 (cast_unsigned w32 default_record.max_burst) bytes);
  max_retransmissions = u32_or 68 default_record.max_retransmissions bytes;
  max_init_retransmits = u32_or 72 default_record.max_init_retransmits bytes;
  zero_checksum_method = u32_or 76 default_record.zero_checksum_method bytes;
  flags = u32_or 80 default_record.flags bytes;
  max_held_fragments = u32_or 84 default_record.max_held_fragments bytes;
  rtt_max = u64_or 88 default_record.rtt_max bytes;
  rto_initial = u64_or 96 default_record.rto_initial bytes;
  rto_max = u64_or 104 default_record.rto_max bytes;
  rto_min = u64_or 112 default_record.rto_min bytes;
  t1_init_timeout = u64_or 120 default_record.t1_init_timeout bytes;
  t1_cookie_timeout = u64_or 128 default_record.t1_cookie_timeout bytes;
  t2_shutdown_timeout = u64_or 136 default_record.t2_shutdown_timeout bytes;
  max_timer_backoff_duration = u64_or 144 default_record.max_timer_backoff_duration bytes;
  heartbeat_interval = u64_or 152 default_record.heartbeat_interval bytes;
  delayed_ack_max_timeout = u64_or 160 default_record.delayed_ack_max_timeout bytes;
  min_rtt_variance = u64_or 168 default_record.min_rtt_variance bytes;
}

-- the struct of these, behind its size
abbrev pub options_bytes : OptionsRecord → List ℕ → List ℕ
options_bytes r = in_turn (
    put_u16 8 r.local_port ∷ put_u16 10 r.remote_port ∷ put_u16 12 r.announced_maximum_incoming_streams ∷
    put_u16 14 r.announced_maximum_outgoing_streams ∷ put_u16 16 r.default_stream_priority ∷ put_u16 18 r.checksum ∷ put_u32 20 r.mtu ∷
    put_u32 24 r.max_message_size ∷ put_u32 28 r.max_receiver_window_buffer_size ∷ put_u32 32 r.max_send_buffer_size ∷
    put_u32 36 r.per_stream_send_queue_limit ∷ put_u32 40 r.total_buffered_amount_low_threshold ∷
    put_u32 44 r.default_stream_buffered_amount_low_threshold ∷ put_u32 48 r.cwnd_mtus_initial ∷ put_u32 52 r.cwnd_mtus_min ∷
    put_u32 56 r.avoid_fragmentation_cwnd_mtus ∷ put_u32 60 r.immediate_sack_under_cwnd_mtus ∷ put_u32 64 (cast_unsigned w32 r.max_burst) ∷
    put_u32 68 r.max_retransmissions ∷ put_u32 72 r.max_init_retransmits ∷ put_u32 76 r.zero_checksum_method ∷ put_u32 80 r.flags ∷
    put_u32 84 r.max_held_fragments ∷
    put_u64 88 r.rtt_max ∷ put_u64 96 r.rto_initial ∷ put_u64 104 r.rto_max ∷ put_u64 112 r.rto_min ∷ put_u64 120 r.t1_init_timeout ∷
    put_u64 128 r.t1_cookie_timeout ∷ put_u64 136 r.t2_shutdown_timeout ∷ put_u64 144 r.max_timer_backoff_duration ∷
    put_u64 152 r.heartbeat_interval ∷ put_u64 160 r.delayed_ack_max_timeout ∷ put_u64 168 r.min_rtt_variance ∷ [])

-- ---- a socket's options as the struct can hold them: no number above the greatest of its type, which stands for "none" where one may be missing

abbrev pub held_size : ℕ → ℕ
held_size n = min n (2 ^ 32 - 1)

abbrev pub held_nanos : ℕ → ℕ
held_nanos n = min n (2 ^ 64 - 1)

abbrev pub held_limit : Option ℕ → Option ℕ
held_limit None = None
held_limit (Some n) = limit_at n

abbrev pub held_count : Option ℕ → Option ℕ
held_count None = None
held_count (Some n) = limit_at (held_size n)

abbrev pub held_span : Option ℕ → Option ℕ
held_span None = None
held_span (Some n) = span_at (held_nanos n)

abbrev pub held_options : Options → Options
held_options o = record o {
  mtu = held_size o.mtu;
  max_message_size = held_size o.max_message_size;
  max_receiver_window_buffer_size = held_size o.max_receiver_window_buffer_size;
  max_held_fragments = held_count o.max_held_fragments;
  max_send_buffer_size = held_size o.max_send_buffer_size;
  per_stream_send_queue_limit = held_size o.per_stream_send_queue_limit;
  total_buffered_amount_low_threshold = held_size o.total_buffered_amount_low_threshold;
  default_stream_buffered_amount_low_threshold = held_size o.default_stream_buffered_amount_low_threshold;
  cwnd_mtus_initial = held_size o.cwnd_mtus_initial;
  cwnd_mtus_min = held_size o.cwnd_mtus_min;
  avoid_fragmentation_cwnd_mtus = held_size o.avoid_fragmentation_cwnd_mtus;
  immediate_sack_under_cwnd_mtus = held_size o.immediate_sack_under_cwnd_mtus;
  rtt_max = held_nanos o.rtt_max;
  rto_initial = held_nanos o.rto_initial;
  rto_max = held_nanos o.rto_max;
  rto_min = held_nanos o.rto_min;
  t1_init_timeout = held_nanos o.t1_init_timeout;
  t1_cookie_timeout = held_nanos o.t1_cookie_timeout;
  t2_shutdown_timeout = held_nanos o.t2_shutdown_timeout;
  heartbeat_interval = held_nanos o.heartbeat_interval;
  delayed_ack_max_timeout = held_nanos o.delayed_ack_max_timeout;
  min_rtt_variance = held_nanos o.min_rtt_variance;
  max_timer_backoff_duration = held_span o.max_timer_backoff_duration;
  max_retransmissions = held_limit o.max_retransmissions;
  max_init_retransmits = held_limit o.max_init_retransmits;
}

abbrev pub flag_value : Bool → ℕ → ℕ
flag_value true value = value
flag_value false value = 0

abbrev pub flags_value : Options → ℕ
flags_value o = flag_value o.enable_partial_reliability 1 + flag_value o.enable_message_interleaving 2 + flag_value o.disable_checksum_verification 4
    + flag_value o.enable_handover_with_outstanding_data 8 + flag_value o.heartbeat_interval_include_rtt 16 + flag_value o.avoid_stalls 32

-- ---- data channels (RFC 8831): DTLS finds damage (RFC 9653), the window is twice the largest message, 16 MiB wait on each stream,
-- 65,536 fragments are held, and stalls are avoided

abbrev pub webrtc_options : Options
webrtc_options = record defaults {
  max_receiver_window_buffer_size = 2 * 262144;
  max_send_buffer_size = 2 ^ 32 - 1;
  per_stream_send_queue_limit = 2 ^ 24;
  zero_checksum_method = 1;
  max_held_fragments = Some (2 ^ 16);
  avoid_stalls = true;
}

abbrev pub webrtc_record : OptionsRecord
webrtc_record = record default_record {
  max_receiver_window_buffer_size = 2 * 262144;
  max_send_buffer_size = 2 ^ 32 - 1;
  per_stream_send_queue_limit = 2 ^ 24;
  zero_checksum_method = 1;
  max_held_fragments = 2 ^ 16;
  flags = 49;
}

-- ---- what is wrong

-- the place of the first field that is out of its bounds, 0 where none is
abbrev pub invalid_time : OptionsRecord → ℕ
invalid_time r =
    if nat_lt r.rto_initial 1000000 then 96 else if nat_lt r.rto_max r.rto_min then 104 else if nat_lt r.rto_min 1000000 then 112
    else if nat_lt r.t1_init_timeout 1000000 then 120 else if nat_lt r.t1_cookie_timeout 1000000 then 128
    else if nat_lt r.delayed_ack_max_timeout 1000000 then 160 else 0

abbrev pub invalid_place : OptionsRecord → ℕ
invalid_place r =
    if nat_lt 1 r.checksum then 18 else if nat_lt r.mtu 256 || nat_lt 65535 r.mtu then 20
    else if nat_lt r.cwnd_mtus_initial 1 || nat_lt 65535 r.cwnd_mtus_initial then 48 else if nat_lt r.cwnd_mtus_min 1 || nat_lt 65535 r.cwnd_mtus_min then 52
    else if nat_lt r.avoid_fragmentation_cwnd_mtus 1 || nat_lt 65535 r.avoid_fragmentation_cwnd_mtus then 56
    else if nat_lt 65535 r.immediate_sack_under_cwnd_mtus then 60 else if nat_lt 63 r.flags then 80 else invalid_time r
