-- Forward points in their chunks (RFC 3758 section 3.5, RFC 8260 section 2.3).
use Rattle.std.specs.Prelude.{ℕ, ◌+◌, ◌-◌, ◌*◌, ◌/◌, Bool, true, false, map}
use Rattle.sctp_chunk.specs.Chunk.{ChunkTree, forward_tsn_chunk, i_forward_tsn_chunk}
use Rattle.sctp_state.specs.Events.{Emitted}
use Rattle.sctp_tx_outstanding.specs.Entries.{ssn_skip, mid_skip}
use Rattle.sctp_tx_outstanding.specs.OutstandingData.{wire_tsn}
use Rattle.sctp_tx_outstanding.specs.Losses.{expire_outstanding}
use Rattle.sctp_tx_outstanding.specs.Forward.{ForwardPoint, forward_point}
use Rattle.sctp_tx.specs.RetransmissionQueue.{Sender}
use Rattle.sctp_tx.specs.Resent.{is_interleaved}

-- expired messages are given up
abbrev pub abandon_expired : {P : Type 0} → ℕ → Sender → Emitted P → Sender
abandon_expired now s emitted = record s { outstanding = record s.outstanding { items = (expire_outstanding now s.outstanding.items emitted).items } }

-- what a packet holds beside its header, rounded down to 4 bytes
abbrev pub most_of : Sender → ℕ
most_of s = s.windows.mtu / 4 * 4 - 12

abbrev pub point_of : Sender → ForwardPoint
point_of s = forward_point (most_of s) s.outstanding.items

abbrev pub chunk_if : (is_interleaved : Bool) → Sender → ChunkTree
chunk_if true s = i_forward_tsn_chunk (wire_tsn s.outstanding (s.outstanding.items.acked + (point_of s).count)) (map mid_skip (point_of s).entries)
chunk_if false s = forward_tsn_chunk (wire_tsn s.outstanding (s.outstanding.items.acked + (point_of s).count)) (map ssn_skip (point_of s).entries)

abbrev pub forward_chunk : Sender → ChunkTree
forward_chunk s = chunk_if (is_interleaved s) s
