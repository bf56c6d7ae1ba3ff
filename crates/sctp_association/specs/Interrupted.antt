-- A packet in which memory ran out: what is ready then, and that an association which was announced is held.
use Rattle.std.specs.Prelude.{◌≡◌, ◌⊎◌, ℕ, Bool, true, false, None, List, [], ◌∷◌}
use Rattle.sctp_packet.specs.Chunk.{ChunkTree}
use Rattle.sctp_packet.specs.Packet.{PacketTree, Accepts}
use Rattle.sctp_endpoint.specs.GoesOn.{HoldsAnnounced}
use Rattle.sctp_endpoint.specs.KeepsReady.{KeepsReady}
use Rattle.spec_endpoint.specs.Association.{EndpointState, Endpoint}
use Rattle.spec_endpoint.specs.Input.{packet_refusal, receive, in_endpoint_state, repeats_if, has_data_chunk, count_packet_at}
use Rattle.spec_endpoint.specs.Receiving.{policy_of}
use Rattle.spec_endpoint.specs.Wire.{word_at}

-- What a step leaves in which it ran out: what was ready is ready, with more behind it, or the association is another one; and one that
-- the step announced is held.
pub record Leaves {P : Type 0} (old now : EndpointState P) : Type 0 where
  pub ready : KeepsReady old.state now.state
  pub held : HoldsAnnounced old.context.emitted now.context.emitted now.state

abbrev pub StopsIf : Bool → Type 0 → Type 0 → Type 0
StopsIf true next end = next
StopsIf false next end = end

-- It ran out in one of these chunks, or behind them. The chunks before did what the table says.
abbrev pub StopsAmong : {P : Type 0} → (tag : ℕ) → List ChunkTree → Endpoint P → EndpointState P → Type 0
StopsAmong tag [] s now = Leaves s.endpoint_state now
StopsAmong tag (chunk ∷ chunks) s now = Leaves s.endpoint_state now
    ⊎ StopsIf (receive tag chunk s).allows_next (StopsAmong tag chunks (receive tag chunk s).end now) (Leaves (receive tag chunk s).end.endpoint_state now)

-- The same of a packet that could be read; one that is refused changes nothing of the association.
pub data StopsPacket {P : Type 0} (p : PacketTree) (s : Endpoint P) (now : EndpointState P) : Type 0 where
  at_once : Leaves s.endpoint_state now → StopsPacket p s now
  among : packet_refusal p.header.verification_tag p.chunks s.endpoint_state.state ≡ None
      → StopsAmong p.header.verification_tag p.chunks (in_endpoint_state (repeats_if (has_data_chunk p.chunks)) (count_packet_at s)) now → StopsPacket p s now

-- The same of bytes that came.
pub data StopsIn (word_of : List ℕ → ℕ) (bytes : List ℕ) (s : Endpoint (List ℕ)) (now : EndpointState (List ℕ)) : Type 0 where
  unread : Leaves s.endpoint_state now → StopsIn word_of bytes s now
  read : (p : PacketTree) → Accepts (policy_of s.endpoint_state.context.options) (word_at word_of bytes) bytes p → StopsPacket p s now → StopsIn word_of bytes s now
