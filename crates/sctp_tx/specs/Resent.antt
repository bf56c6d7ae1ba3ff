-- What is sent again, and what that leaves (RFC 9260 sections 6.3.3, 7.2.4).
use Rattle.std.specs.Prelude.{ℕ, ◌+◌, ◌-◌, ◌&&◌, not, nat_lt, min, Bool, true, false, List, length}
use Rattle.std.specs.List.{sum_by}
use Rattle.sctp_chunk.specs.Chunk.{FragmentTree}
use Rattle.sctp_tx_outstanding.specs.Item.{size_of}
use Rattle.sctp_tx_outstanding.specs.OutstandingData.{flight_bytes, waiting_items}
use Rattle.sctp_tx_outstanding.specs.Resending.{Resent, resend}
use Rattle.sctp_tx.specs.Windows.{saturate_u64, consume_rwnd, room, may_send}
use Rattle.sctp_tx.specs.RetransmissionQueue.{Sender, nothing_in_flight, kept_running}

abbrev pub sizes : (is_interleaved : Bool) → List (ℕ × FragmentTree) → ℕ
sizes m chunks = sum_by (λ c. size_of m c.1) chunks

abbrev pub is_interleaved : Sender → Bool
is_interleaved s = s.outstanding.items.is_interleaved

abbrev pub flight : Sender → ℕ
flight s = saturate_u64 (flight_bytes s.outstanding.items)

abbrev pub room_of : Sender → ℕ
room_of s = room (nothing_in_flight s.outstanding.items) (flight s) s.windows

abbrev pub may_send_new : Sender → Bool
may_send_new s = may_send (nothing_in_flight s.outstanding.items) (flight s) s.windows && not (s.windows.avoids_stalls && nat_lt 0 (waiting_items s.outstanding.items))

-- ---- what is sent again

abbrev pub counted_if : Bool → ℕ → ℕ
counted_if true n = saturate_u64 (n + 1)
counted_if false n = n

-- the peer's window shrinks, and the packet and its bytes are counted
abbrev pub count_retransmission : (count bytes : ℕ) → Sender → Sender
count_retransmission count bytes s = record s {
  windows = consume_rwnd bytes s.windows;
  rtx_packets = counted_if (nat_lt 0 count) s.rtx_packets;
  rtx_bytes = saturate_u64 (s.rtx_bytes + bytes);
}

abbrev pub count_retransmission_of : List (ℕ × FragmentTree) → Sender → Sender
count_retransmission_of chunks s = count_retransmission (length chunks) (saturate_u64 (sizes (is_interleaved s) chunks)) s

abbrev pub resent_by : Sender → Resent → Sender
resent_by s x = count_retransmission_of x.chunks (record s { outstanding = x.outstanding })

-- into so much of a packet
abbrev pub resent : (most : ℕ) → Sender → Resent
resent most s = resend false (min most (s.windows.cwnd - flight s)) s.windows.rwnd s.outstanding

-- the packet that ignores the congestion window
abbrev pub resent_fast : (most : ℕ) → Sender → Resent
resent_fast most s = resend true most 0 s.outstanding

-- ---- the timer

-- the timer runs once something was handed out
abbrev pub start_t3_if : Bool → ℕ → Sender → Sender
start_t3_if true now s = record s { t3 = kept_running (nothing_in_flight s.outstanding.items) now s.t3 }
start_t3_if false now s = s

abbrev pub start_t3_if_sent : ℕ → List (ℕ × FragmentTree) → Sender → Sender
start_t3_if_sent now chunks s = start_t3_if (nat_lt 0 (length chunks)) now s

-- the packet that ignores the congestion window
abbrev pub send_fast : ℕ → (most : ℕ) → Sender → Sender
send_fast now most s = start_t3_if_sent now (resent_fast most s).chunks (resent_by s (resent_fast most s))
