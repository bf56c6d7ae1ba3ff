-- A message of the owner, and a channel that is closed.
use Rattle.std.specs.Prelude.{◌≡◌, ◌⊎◌, ℕ, ◌≤◌, min, ◌*◌, Bool, true, false, Option, Some, None}
use Rattle.sctp_channels.specs.Channel.{Channel}
use Rattle.sctp_channels.specs.Lifecycle.{is_draining, may_send, needs_answer}
use Rattle.sctp_channels.specs.declared.reliability.Reliability.{Reliability}
use Rattle.sctp_channels.specs.declared.reliability.Reliability.TheVariants.{MaxRetransmissions, MaxLifetime}
pub use Rattle.sctp_channels.specs.Steps.{DataChannels, with_channels}

-- how often a message is sent again, at most
abbrev pub retransmissions : Reliability → Option ℕ
retransmissions (MaxRetransmissions count) = Some (min count 65535)
retransmissions _ = None

-- the nanoseconds for which it is worth sending
abbrev pub lifetime : Reliability → Option ℕ
lifetime (MaxLifetime milliseconds) = Some (milliseconds * 1_000_000)
lifetime _ = None

-- a channel is there, and takes messages
abbrev pub IsOpenAt : Option Channel → Type 0
IsOpenAt None = ⊥
IsOpenAt (Some c) = may_send c.lifecycle ≡ true

-- a channel is closed there, and its reset is still to be asked for
abbrev pub is_draining_at : Option Channel → Bool
is_draining_at None = false
is_draining_at (Some c) = is_draining c.lifecycle.outgoing

-- the peer has reset its stream of a channel there
abbrev pub is_incoming_reset_at : Option Channel → Bool
is_incoming_reset_at None = false
is_incoming_reset_at (Some c) = c.lifecycle.is_incoming_reset

-- an answer is of use: the peer has a channel there, and neither end has reset it since, or asked for it
abbrev pub needs_answer_at : Option Channel → Bool
needs_answer_at None = false
needs_answer_at (Some c) = needs_answer c.lifecycle

-- the peer takes a message of so many bytes
abbrev pub IsShortEnough : ℕ → DataChannels → Type 0
IsShortEnough size d = (d.peer_limit ≡ 0) ⊎ (size ≤ d.peer_limit)
