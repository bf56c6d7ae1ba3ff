-- The windows of a sender: how much it may have in flight (RFC 9260 section 6.1). Bytes, but for the exit.
use Rattle.std.specs.Prelude.{ℕ, ◌-◌, ◌*◌, ◌==◌, ◌&&◌, ◌||◌, not, nat_le, nat_lt, min, Bool, true, false, Option, None}
use Rattle.sctp_state.specs.Options.{Options}
use Rattle.sctp_tx.specs.declared.retransmission_queue.congestion_control.CongestionControl.{CongestionControl}
use Rattle.sctp_tx.specs.CongestionControl as control
pub use Rattle.sctp_tx.specs.CongestionControl.{saturate_u64}

pub record Windows : Type 0 where
  pub mtu : ℕ
  pub least_cwnd : ℕ  -- a loss leaves at least so large a congestion window
  pub unfragmented_cwnd : ℕ  -- below this congestion window new fragments may be smaller than a packet
  pub avoids_stalls : Bool  -- new fragments wait for what is to be sent again (RFC 9260 section 6.1 rule C), and a window that opens is used
  pub cwnd : ℕ
  pub ssthresh : ℕ
  pub rwnd : ℕ  -- what the peer's window has left
  pub partial_bytes_acked : ℕ
  pub fast_recovery_exit : Option ℕ

abbrev pub windows_of : CongestionControl → (rwnd unfragmented_cwnd : ℕ) → (avoids_stalls : Bool) → Windows
windows_of c rwnd unfragmented_cwnd avoids_stalls = record {
  mtu = c.mtu;
  least_cwnd = c.least_cwnd;
  unfragmented_cwnd = unfragmented_cwnd;
  avoids_stalls = avoids_stalls;
  cwnd = c.cwnd;
  ssthresh = c.ssthresh;
  rwnd = rwnd;
  partial_bytes_acked = c.partial_bytes_acked;
  fast_recovery_exit = c.fast_recovery_exit;
}

-- the peer's first a_rwnd is both its window and the threshold
abbrev pub at_first : Options → ℕ → Windows
at_first o a_rwnd = windows_of (control.at_first o a_rwnd) a_rwnd (o.avoid_fragmentation_cwnd_mtus * o.mtu) o.avoid_stalls

-- ---- congestion control: what it does is stated of its own part

abbrev pub congestion_of : Windows → CongestionControl
congestion_of w = record {
  mtu = w.mtu;
  least_cwnd = w.least_cwnd;
  cwnd = w.cwnd;
  ssthresh = w.ssthresh;
  partial_bytes_acked = w.partial_bytes_acked;
  fast_recovery_exit = w.fast_recovery_exit;
}

-- the packet's size and the least window stay
abbrev pub controlled : (CongestionControl → CongestionControl) → Windows → Windows
controlled rule w = let c = rule (congestion_of w) in record w {
  cwnd = c.cwnd;
  ssthresh = c.ssthresh;
  partial_bytes_acked = c.partial_bytes_acked;
  fast_recovery_exit = c.fast_recovery_exit;
}

abbrev pub grow : (before acked : ℕ) → Windows → Windows
grow before acked w = controlled (control.grow before acked) w

abbrev pub recovering : (exit : ℕ) → Windows → Windows
recovering exit w = controlled (control.recovering exit) w

-- with stalls avoided it ends fast recovery: slow start follows (RFC 9260 section 7.2.3)
abbrev pub exit_unless : (ends : Bool) → Option ℕ → Option ℕ
exit_unless true exit = None
exit_unless false exit = exit

abbrev pub timed_out : Windows → Windows
timed_out w = record (controlled control.timed_out w) { fast_recovery_exit = exit_unless w.avoids_stalls w.fast_recovery_exit }

abbrev pub is_open : (cumulative : ℕ) → Windows → Bool
is_open cumulative w = control.is_open cumulative (congestion_of w)

abbrev pub maybe_exit_fast_recovery : (cumulative : ℕ) → Windows → Windows
maybe_exit_fast_recovery cumulative w = controlled (control.maybe_exit_fast_recovery cumulative) w

-- ---- the peer's window

abbrev pub update_rwnd : (a_rwnd payload : ℕ) → Windows → Windows
update_rwnd a_rwnd payload w = record w { rwnd = a_rwnd - payload }

abbrev pub consume_rwnd : (size : ℕ) → Windows → Windows
consume_rwnd size w = record w { rwnd = w.rwnd - size }

-- with stalls avoided: it is closed, and will be used once it opens
abbrev pub is_shut : Windows → Bool
is_shut w = w.avoids_stalls && w.rwnd == 0

abbrev pub reopens : (before after : Windows) → Bool
reopens before after = is_shut before && not (after.rwnd == 0)

-- ---- what may go (section 6.1): where nothing is in flight, one chunk may probe a closed window

abbrev pub room_within : (is_quiet : Bool) → (left rwnd : ℕ) → ℕ
room_within true left rwnd = left
room_within false left rwnd = min left rwnd

abbrev pub room : (is_quiet : Bool) → (flight : ℕ) → Windows → ℕ
room is_quiet flight w = room_within is_quiet (w.cwnd - flight) w.rwnd

-- new fragments: with a small window, or with room for a whole packet
abbrev pub may_send : (is_quiet : Bool) → (flight : ℕ) → Windows → Bool
may_send is_quiet flight w = nat_lt w.cwnd w.unfragmented_cwnd || nat_le w.mtu (room is_quiet flight w)
