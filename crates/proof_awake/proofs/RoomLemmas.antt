-- The congestion window stays a packet at least.
use Rattle.std.proofs.Common.{ℕ, zero, suc, ◌+◌, ◌≤◌, Bool, true, false, cond, Option, Some, None, length, arith, mul-le-mul_right}
use Rattle.std.specs.Prelude.{◌&&◌, nat_lt, nat_le}
use Rattle.sctp_state.specs.Options.{Options}
use Rattle.sctp_state.specs.Events.{Emitted}
use Rattle.sctp_tx_queue.specs.SendQueue.{Queue}
use Rattle.sctp_tx_queue.specs.Produced.{Produced, Turn, produce}
use Rattle.sctp_tx.specs.declared.retransmission_queue.congestion_control.CongestionControl.{CongestionControl}
use Rattle.sctp_tx.specs.CongestionControl.{saturate_u64, slow_start, avoidance, grown_by}
use Rattle.sctp_tx.specs.Windows.{Windows, at_first, congestion_of, is_open, maybe_exit_fast_recovery, update_rwnd}
use Rattle.sctp_tx.specs.RetransmissionQueue.{Sender, grown_if, recovering_if, windows_after}
use Rattle.sctp_tx.specs.Resent.{may_send_new, start_t3_if}
use Rattle.sctp_tx.specs.Sending as fragments
use Rattle.sctp_tx.specs.Sending.{QueueStep, append, offered_payload, queue_step_if, next_turn, fill, send}
use Rattle.proof_refines.specs.Filled.{began}
use Rattle.proof_awake.specs.Invariant.{HasLimits, WindowsHaveRoom}

-- ---- growth and losses

slow_enough : (b : Bool) (acked : ℕ) (c : CongestionControl) → c.mtu ≤ 65535 → c.mtu ≤ c.cwnd → c.mtu ≤ slow_start b acked c
slow_enough true acked c m w = omega (arith, m, w)
slow_enough false acked c m w = w

avoids_enough : (b : Bool) (sum : ℕ) (c : CongestionControl) → c.mtu ≤ 65535 → c.mtu ≤ c.cwnd → c.mtu ≤ (avoidance b sum c).cwnd
avoids_enough true sum c m w = omega (arith, m, w)
avoids_enough false sum c m w = w

grows_enough : (b : Bool) (before acked : ℕ) (c : CongestionControl) → c.mtu ≤ 65535 → c.mtu ≤ c.cwnd → c.mtu ≤ (grown_by b before acked c).cwnd
grows_enough true before acked c m w = slow_enough (nat_le c.cwnd (before + c.mtu)) acked c m w
grows_enough false before acked c m w = avoids_enough (nat_le c.cwnd (saturate_u64 (c.partial_bytes_acked + acked))) (saturate_u64 (c.partial_bytes_acked + acked)) c m w

grown_room : (b : Bool) (before acked : ℕ) (w : Windows) → WindowsHaveRoom w → WindowsHaveRoom (grown_if b before acked w)
grown_room true before acked w h = record {
  some = h.some;
  most = h.most;
  whole = grows_enough (nat_le w.cwnd w.ssthresh) before acked (congestion_of w) h.most h.whole;
  least = h.least;
}
grown_room false before acked w h = h

recovering_room : (b : Bool) (exit : ℕ) (w : Windows) → WindowsHaveRoom w → WindowsHaveRoom (recovering_if b exit w)
recovering_room true exit w h = record { some = h.some; most = h.most; whole = let a = h.least in omega (arith, a); least = h.least }
recovering_room false exit w h = h

pub sack_room : (n a_rwnd : ℕ) (moved is_lossy : Bool) (before acked payload exit : ℕ) (w : Windows) → WindowsHaveRoom w
    → WindowsHaveRoom (windows_after n a_rwnd moved is_lossy before acked payload exit w)
sack_room n a_rwnd moved is_lossy before acked payload exit w h =
    let u : Windows = update_rwnd a_rwnd payload (maybe_exit_fast_recovery n w) in
    let v : Windows = grown_if (moved && is_open n w) before acked u in
    recovering_room (is_lossy && is_open n w) exit v (grown_room (moved && is_open n w) before acked u
    (record { some = h.some; most = h.most; whole = h.whole; least = h.least }))

pub new_room : (avoids : Bool) (o : Options) (a_rwnd : ℕ) → HasLimits avoids o → WindowsHaveRoom (at_first o a_rwnd)
new_room avoids o a_rwnd h = record {
  some = h.mtu_least;
  most = h.mtu_most;
  whole = let a = mul-le-mul_right {m = 1} {n = o.cwnd_mtus_initial} o.mtu h.cwnd_initial in omega (arith, a);
  least = let a = mul-le-mul_right {m = 1} {n = o.cwnd_mtus_min} o.mtu h.cwnd_min in omega (arith, a);
}

-- ---- what is sent takes of the peer's window alone

pub room_started : (b : Bool) (now : ℕ) (s : Sender) → WindowsHaveRoom s.windows → WindowsHaveRoom (start_t3_if b now s).windows
room_started true now s h = h
room_started false now s h = h

module _ {P : Type 0} where
  room_appended : (now : ℕ) (o : Option Produced) (x : fragments.Filling P) → WindowsHaveRoom x.sender.windows → WindowsHaveRoom (append now o x).sender.windows
  room_appended now None x h = h
  room_appended now (Some p) x h = h

  room_turned : (b : Bool) (now : ℕ) (x : fragments.Filling P) → WindowsHaveRoom x.sender.windows → WindowsHaveRoom (queue_step_if b now x).filling.sender.windows
  room_turned true now x h =
      let y : Turn P = produce now (offered_payload x.left x.sender) x.queue x.emitted in
      room_appended now y.made (record x { queue = y.queue; emitted = y.emitted }) h
  room_turned false now x h = h

  room_if : (b : Bool) (x y : fragments.Filling P) → WindowsHaveRoom x.sender.windows → WindowsHaveRoom y.sender.windows
      → WindowsHaveRoom (let z : fragments.Filling P = cond b x y in z).sender.windows
  room_if true x y h k = h
  room_if false x y h k = k

  pub room_filled : (n now : ℕ) (x : fragments.Filling P) → WindowsHaveRoom x.sender.windows → WindowsHaveRoom (fill n now x).sender.windows
  room_filled zero now x h = h
  room_filled (suc n) now x h =
      let y : QueueStep P = next_turn now x in
      let k : WindowsHaveRoom y.filling.sender.windows = room_turned (may_send_new x.sender && nat_lt 0 (offered_payload x.left x.sender)) now x h in
      room_if y.is_more (fill n now y.filling) y.filling (room_filled n now y.filling k) k

  pub room_sent : (now most : ℕ) (s : Sender) (q : Queue) (e : Emitted P) → WindowsHaveRoom s.windows → WindowsHaveRoom (send now most s q e).sender.windows
  room_sent now most s q e h =
      let x : fragments.Filling P = began most s q e in
      let y : fragments.Filling P = fill (suc x.left) now x in
      room_started (nat_lt 0 (length y.chunks)) now y.sender (room_filled (suc x.left) now x h)
