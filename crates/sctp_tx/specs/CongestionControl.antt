-- Congestion control (RFC 9260 section 7.2): how much may be in flight as far as the network goes. Bytes, but for the exit.
use Rattle.std.specs.Prelude.{ℕ, ◌+◌, ◌-◌, ◌*◌, ◌/◌, ◌^◌, nat_le, min, max, Bool, true, false, Option, Some, None}
use Rattle.sctp_state.specs.Options.{Options}
use Rattle.sctp_tx.specs.declared.retransmission_queue.congestion_control.CongestionControl.{CongestionControl}

-- counts stop at the greatest number of their type
abbrev pub saturate_u64 : ℕ → ℕ
saturate_u64 n = min n (2 ^ 64 - 1)

abbrev pub at_first : Options → (ssthresh : ℕ) → CongestionControl
at_first o ssthresh = record {
  mtu = o.mtu;
  least_cwnd = o.cwnd_mtus_min * o.mtu;
  cwnd = o.cwnd_mtus_initial * o.mtu;
  ssthresh = ssthresh;
  partial_bytes_acked = 0;
  fast_recovery_exit = None;
}

-- ---- growth, where the cumulative TSN moved outside fast recovery; `before` was unacknowledged, `acked` newly is not

-- slow start (section 7.2.1): only where the window was in use
abbrev pub slow_start : (is_used : Bool) → (acked : ℕ) → CongestionControl → ℕ
slow_start true acked c = saturate_u64 (c.cwnd + min acked c.mtu)
slow_start false acked c = c.cwnd

-- congestion avoidance (section 7.2.2): an mtu for each whole window that is acknowledged
abbrev pub avoidance : (is_whole : Bool) → (sum : ℕ) → CongestionControl → CongestionControl
avoidance true sum c = record c { cwnd = saturate_u64 (c.cwnd + c.mtu); partial_bytes_acked = sum - c.cwnd }
avoidance false sum c = record c { partial_bytes_acked = sum }

abbrev pub grown_by : (is_slow : Bool) → (before acked : ℕ) → CongestionControl → CongestionControl
grown_by true before acked c = record c { cwnd = slow_start (nat_le c.cwnd (before + c.mtu)) acked c }
grown_by false before acked c = let sum = saturate_u64 (c.partial_bytes_acked + acked) in avoidance (nat_le c.cwnd sum) sum c

abbrev pub grow : (before acked : ℕ) → CongestionControl → CongestionControl
grow before acked c = grown_by (nat_le c.cwnd c.ssthresh) before acked c

-- ---- losses (section 7.2.3, 7.2.4)

abbrev pub halved_cwnd : CongestionControl → ℕ
halved_cwnd c = max (c.cwnd / 2) c.least_cwnd

-- a third report that an item is missing: until this TSN is acknowledged
abbrev pub recovering : (exit : ℕ) → CongestionControl → CongestionControl
recovering exit c = record c { ssthresh = halved_cwnd c; cwnd = halved_cwnd c; fast_recovery_exit = Some exit }

abbrev pub timed_out : CongestionControl → CongestionControl
timed_out c = record c { ssthresh = halved_cwnd c; cwnd = c.mtu }

-- whether fast recovery is over, or there is none, once all up to this number is acknowledged
abbrev pub is_over : (cumulative : ℕ) → Option ℕ → Bool
is_over cumulative None = true
is_over cumulative (Some exit) = nat_le exit cumulative

abbrev pub is_open : (cumulative : ℕ) → CongestionControl → Bool
is_open cumulative c = is_over cumulative c.fast_recovery_exit

abbrev pub exit_unless : Bool → Option ℕ → Option ℕ
exit_unless true exit = None
exit_unless false exit = exit

abbrev pub maybe_exit_fast_recovery : (cumulative : ℕ) → CongestionControl → CongestionControl
maybe_exit_fast_recovery cumulative c = record c { fast_recovery_exit = exit_unless (is_open cumulative c) c.fast_recovery_exit }
