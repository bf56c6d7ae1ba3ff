-- What a packet holds, and adds to what is in flight (RFC 9260 section 6.1, rule B).
use Rattle.std.specs.Prelude.{◌≡◌, ◌≤◌, ℕ, ◌+◌, max, List}
use Rattle.sctp_chunk.specs.Chunk.{FragmentTree}
use Rattle.sctp_tx_outstanding.specs.OutstandingData.{flight_bytes}
use Rattle.sctp_tx.specs.RetransmissionQueue.{Sender}
use Rattle.sctp_tx.specs.Resent.{sizes, is_interleaved}

-- the bytes in flight are no more than before, or than the congestion window, which stays
pub record StaysWithin (s after : Sender) : Type 0 where
  pub flight : flight_bytes after.outstanding.items ≤ max (flight_bytes s.outstanding.items) s.windows.cwnd
  pub cwnd : after.windows.cwnd ≡ s.windows.cwnd

-- the packet that ignores the congestion window adds no more than it holds
pub record AddsAtMost (most : ℕ) (s after : Sender) : Type 0 where
  pub flight : flight_bytes after.outstanding.items ≤ flight_bytes s.outstanding.items + most
  pub cwnd : after.windows.cwnd ≡ s.windows.cwnd

-- chunks with their headers and padding are within the room that was offered
abbrev pub FitWithin : (most : ℕ) → Sender → List (ℕ × FragmentTree) → Type 0
FitWithin most s chunks = sizes (is_interleaved s) chunks ≤ most
