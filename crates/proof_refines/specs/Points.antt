-- A forward point of the items, as the rules have it (RFC 3758 section 3.5, RFC 8260 section 2.3).
use Rattle.std.specs.Prelude.{◌≡◌, ℕ, ◌+◌, ◌-◌, ◌≤◌, ◌⊎◌, not, Bool, true, false, if◌then◌else◌, map}
use Rattle.sctp_serial.specs.Unwrapped.{origin, u32_space, halves, wire}
use Rattle.sctp_packet.specs.Chunk.{ChunkTree, forward_tsn_chunk, i_forward_tsn_chunk}
use Rattle.sctp_tx_outstanding.specs.declared.skips.SkipEntry.{SkipEntry}
use Rattle.sctp_tx_outstanding.specs.Entries.{ssn_skip, mid_skip}
use Rattle.sctp_tx.specs.RetransmissionQueue.{Sender}
use Rattle.sctp_tx.specs.ForwardPoints.{point_of, forward_chunk}
use Rattle.proof_protocol.specs.State.{Message, Entry, ForwardPoint, Transfer, IsAmong}
use Rattle.proof_protocol.specs.Rules.{IsAllowed, send_forward}
use Rattle.proof_protocol.specs.Points.{AreApart}

-- an entry as it is written: with its MID, or without interleaving with its SSN
abbrev pub skip_of : (is_interleaved : Bool) → Entry → SkipEntry
skip_of is_interleaved e = record {
  stream_id = record { 0 = e.stream };
  is_unordered = not e.ordered;
  number = if is_interleaved then wire u32_space 0 (origin + e.written) else wire halves 0 (origin + e.written);
}

-- a point in its chunk, where the first TSN is `first`: with the TSN of the last fragment that it passes
abbrev pub chunk_of : (is_interleaved : Bool) → (first : ℕ) → ForwardPoint → ChunkTree
chunk_of true first f = i_forward_tsn_chunk (wire u32_space first (origin + f.upto - 1)) (map mid_skip (map (skip_of true) f.entries))
chunk_of false first f = forward_tsn_chunk (wire u32_space first (origin + f.upto - 1)) (map ssn_skip (map (skip_of false) f.entries))

-- the point that the sender names may be sent, by the rules
pub record IsSendable (message : ℕ → Message) (is_interleaved : Bool) (x : Transfer) (s : Sender) : Type 0 where
  pub point : ForwardPoint
  pub allowed : IsAllowed message is_interleaved x (send_forward point)
  pub upto : point.upto ≡ x.acknowledged + (point_of s).count
  pub chunk : forward_chunk s ≡ chunk_of is_interleaved s.outstanding.first point
  pub apart : AreApart point.entries
  -- it goes over no breakpoint of a reset
  pub ends : (b : ℕ) → IsAmong b s.outstanding.items.breaks → (origin + point.upto ≤ b) ⊎ (b ≤ origin + x.acknowledged)
