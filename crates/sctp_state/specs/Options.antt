-- What a socket is made with: times in nanoseconds, sizes in bytes.
use Rattle.std.specs.Prelude.{ℕ, ℤ, pos, negsuc, ◌*◌, ◌≤◌, Bool, true, false, Option, Some, None, option_map}
use Rattle.std.specs.Duration.{as_nanos}
use Rattle.sctp_state.specs.Numbers.{ms, most_u32}
use Rattle.sctp_state.specs.Timer.{cap_at}
use Rattle.sctp_state.specs.declared.api.options.Options as given
use Rattle.sctp_state.specs.declared.api.options.SendOptions as given_to_send

pub record Options : Type 0 where
  pub local_port : ℕ
  pub remote_port : ℕ
  pub announced_maximum_incoming_streams : ℕ
  pub announced_maximum_outgoing_streams : ℕ
  pub mtu : ℕ
  pub max_message_size : ℕ
  pub default_stream_priority : ℕ
  pub max_receiver_window_buffer_size : ℕ
  pub max_held_fragments : Option ℕ
  pub max_send_buffer_size : ℕ
  pub per_stream_send_queue_limit : ℕ
  pub total_buffered_amount_low_threshold : ℕ
  pub default_stream_buffered_amount_low_threshold : ℕ
  pub rtt_max : ℕ
  pub rto_initial : ℕ
  pub rto_max : ℕ
  pub rto_min : ℕ
  pub t1_init_timeout : ℕ
  pub t1_cookie_timeout : ℕ
  pub t2_shutdown_timeout : ℕ
  pub max_timer_backoff_duration : Option ℕ
  pub heartbeat_interval : ℕ
  pub delayed_ack_max_timeout : ℕ
  pub min_rtt_variance : ℕ
  pub cwnd_mtus_initial : ℕ
  pub cwnd_mtus_min : ℕ
  pub avoid_fragmentation_cwnd_mtus : ℕ
  pub immediate_sack_under_cwnd_mtus : ℕ
  pub max_burst : ℕ  -- 0 where the option is negative
  pub max_retransmissions : Option ℕ
  pub max_init_retransmits : Option ℕ
  pub enable_partial_reliability : Bool
  pub enable_message_interleaving : Bool
  pub heartbeat_interval_include_rtt : Bool
  pub zero_checksum_method : ℕ
  pub disable_checksum_verification : Bool
  pub enable_handover_with_outstanding_data : Bool
  pub avoid_stalls : Bool

abbrev pub at_least_zero : ℤ → ℕ
at_least_zero (pos n) = n
at_least_zero (negsuc n) = 0

-- the options that a program gives
abbrev pub options_of : given.Options → Options
options_of o = record {
  local_port = o.local_port;
  remote_port = o.remote_port;
  announced_maximum_incoming_streams = o.announced_maximum_incoming_streams;
  announced_maximum_outgoing_streams = o.announced_maximum_outgoing_streams;
  mtu = o.mtu;
  max_message_size = o.max_message_size;
  default_stream_priority = o.default_stream_priority;
  max_receiver_window_buffer_size = o.max_receiver_window_buffer_size;
  max_held_fragments = o.max_held_fragments;
  max_send_buffer_size = o.max_send_buffer_size;
  per_stream_send_queue_limit = o.per_stream_send_queue_limit;
  total_buffered_amount_low_threshold = o.total_buffered_amount_low_threshold;
  default_stream_buffered_amount_low_threshold = o.default_stream_buffered_amount_low_threshold;
  rtt_max = as_nanos o.rtt_max;
  rto_initial = as_nanos o.rto_initial;
  rto_max = as_nanos o.rto_max;
  rto_min = as_nanos o.rto_min;
  t1_init_timeout = as_nanos o.t1_init_timeout;
  t1_cookie_timeout = as_nanos o.t1_cookie_timeout;
  t2_shutdown_timeout = as_nanos o.t2_shutdown_timeout;
  max_timer_backoff_duration = option_map as_nanos o.max_timer_backoff_duration;
  heartbeat_interval = as_nanos o.heartbeat_interval;
  delayed_ack_max_timeout = as_nanos o.delayed_ack_max_timeout;
  min_rtt_variance = as_nanos o.min_rtt_variance;
  cwnd_mtus_initial = o.cwnd_mtus_initial;
  cwnd_mtus_min = o.cwnd_mtus_min;
  avoid_fragmentation_cwnd_mtus = o.avoid_fragmentation_cwnd_mtus;
  immediate_sack_under_cwnd_mtus = o.immediate_sack_under_cwnd_mtus;
  max_burst = at_least_zero o.max_burst;
  max_retransmissions = o.max_retransmissions;
  max_init_retransmits = o.max_init_retransmits;
  enable_partial_reliability = o.enable_partial_reliability;
  enable_message_interleaving = o.enable_message_interleaving;
  heartbeat_interval_include_rtt = o.heartbeat_interval_include_rtt;
  zero_checksum_method = o.zero_checksum_alternate_error_detection_method.0;
  disable_checksum_verification = o.disable_checksum_verification;
  enable_handover_with_outstanding_data = o.enable_handover_with_outstanding_data;
  avoid_stalls = o.avoid_stalls;
}

abbrev pub defaults : Options
defaults = record {
  local_port = 5000;
  remote_port = 5000;
  announced_maximum_incoming_streams = 65535;
  announced_maximum_outgoing_streams = 65535;
  mtu = 1191;
  max_message_size = 262144;
  default_stream_priority = 256;
  max_receiver_window_buffer_size = 5242880;
  max_held_fragments = None;
  max_send_buffer_size = 2000000;
  per_stream_send_queue_limit = 2000000;
  total_buffered_amount_low_threshold = 1800000;
  default_stream_buffered_amount_low_threshold = 0;
  rtt_max = 60000 * ms;
  rto_initial = 500 * ms;
  rto_max = 60000 * ms;
  rto_min = 400 * ms;
  t1_init_timeout = 1000 * ms;
  t1_cookie_timeout = 1000 * ms;
  t2_shutdown_timeout = 1000 * ms;
  max_timer_backoff_duration = None;
  heartbeat_interval = 30000 * ms;
  delayed_ack_max_timeout = 200 * ms;
  min_rtt_variance = 220 * ms;
  cwnd_mtus_initial = 10;
  cwnd_mtus_min = 4;
  avoid_fragmentation_cwnd_mtus = 6;
  immediate_sack_under_cwnd_mtus = 10;
  max_burst = 4;
  max_retransmissions = Some 10;
  max_init_retransmits = Some 8;
  enable_partial_reliability = true;
  enable_message_interleaving = false;
  heartbeat_interval_include_rtt = true;
  zero_checksum_method = 0;
  disable_checksum_verification = false;
  enable_handover_with_outstanding_data = false;
  avoid_stalls = false;
}

-- ---- which options a socket can be made with

-- sizes fit what a packet, or a field of 32 bits, can hold
pub record HasValidSizes (o : Options) : Type 0 where
  pub mtu_least : 256 ≤ o.mtu
  pub mtu_most : o.mtu ≤ 65535
  pub receiver_window : o.max_receiver_window_buffer_size ≤ most_u32
  pub send_buffer : o.max_send_buffer_size ≤ most_u32
  pub stream_queue : o.per_stream_send_queue_limit ≤ most_u32
  pub message : o.max_message_size ≤ most_u32

-- no timer that has to run is started with less than a millisecond
pub record HasValidTimes (o : Options) : Type 0 where
  pub rto_range : o.rto_min ≤ o.rto_max
  pub rto_min : 1 * ms ≤ o.rto_min
  pub rto_initial : 1 * ms ≤ o.rto_initial
  pub t1_init : 1 * ms ≤ o.t1_init_timeout
  pub t1_cookie : 1 * ms ≤ o.t1_cookie_timeout
  pub delayed_ack : 1 * ms ≤ o.delayed_ack_max_timeout

-- windows are counted in whole packets
pub record HasValidWindows (o : Options) : Type 0 where
  pub initial_least : 1 ≤ o.cwnd_mtus_initial
  pub initial_most : o.cwnd_mtus_initial ≤ 65535
  pub min_least : 1 ≤ o.cwnd_mtus_min
  pub min_most : o.cwnd_mtus_min ≤ 65535
  pub avoid_least : 1 ≤ o.avoid_fragmentation_cwnd_mtus
  pub avoid_most : o.avoid_fragmentation_cwnd_mtus ≤ 65535
  pub immediate_most : o.immediate_sack_under_cwnd_mtus ≤ 65535

pub record IsValid (o : Options) : Type 0 where
  pub sizes : HasValidSizes o
  pub times : HasValidTimes o
  pub windows : HasValidWindows o

-- ---- how long timers wait at most, once they have backed off

-- T3-rtx: with stalls avoided no longer than the greatest timeout (RFC 9260 section 6.3.3, rule E2)
abbrev pub t3_backoff_if : (avoids_stalls : Bool) → Options → Option ℕ
t3_backoff_if true o = Some (cap_at o.max_timer_backoff_duration o.rto_max)
t3_backoff_if false o = o.max_timer_backoff_duration

abbrev pub t3_backoff : Options → Option ℕ
t3_backoff o = t3_backoff_if o.avoid_stalls o

-- the timer of requests to reset streams, alike (RFC 6525 section 5.1.1)
abbrev pub reconfig_backoff_if : (avoids_stalls : Bool) → Options → Option ℕ
reconfig_backoff_if true o = Some o.rto_max
reconfig_backoff_if false o = None

abbrev pub reconfig_backoff : Options → Option ℕ
reconfig_backoff o = reconfig_backoff_if o.avoid_stalls o

-- ---- what a message is sent with

pub record SendOptions : Type 0 where
  pub unordered : Bool
  pub lifetime : Option ℕ  -- in nanoseconds
  pub max_retransmissions : Option ℕ
  pub lifecycle_id : Option ℕ

abbrev pub send_options_of : given_to_send.SendOptions → SendOptions
send_options_of o = record {
  unordered = o.unordered;
  lifetime = option_map as_nanos o.lifetime;
  max_retransmissions = o.max_retransmissions;
  lifecycle_id = o.lifecycle_id;
}

-- an ordered message, reliable, without a lifecycle
abbrev pub plainly : SendOptions
plainly = record { unordered = false; lifetime = None; max_retransmissions = None; lifecycle_id = None }
