-- The records of C about channels, as the values of channels.
use Rattle.std.specs.Prelude.{◌≡◌, ◌⊎◌, Option, Some, None, ℕ, ◌+◌, ◌<◌, ◌/◌, ◌%◌, ◌^◌, ◌==◌, cond, List, [], ◌∷◌, length, take}
use Rattle.sctp_c_records.specs.Layout.{in_turn, put_u32, put_u64, u32_or}
use Rattle.sctp_c_records.specs.Metrics.{one_if}
use Rattle.sctp_channels.specs.declared.channel.Statistics.{Statistics}
use Rattle.sctp_channels.specs.Channel.{Channel}
use Rattle.sctp_channels.specs.Lifecycle.{state}
use Rattle.sctp_channels.specs.Views.{Open}
use Rattle.sctp_channels.specs.declared.lifecycle.ChannelState.{ChannelState}
use Rattle.sctp_channels.specs.declared.lifecycle.ChannelState.TheVariants as states
use Rattle.sctp_channels.specs.declared.reliability.Reliability.{Reliability}
use Rattle.sctp_channels.specs.declared.reliability.Reliability.TheVariants.{Reliable, MaxRetransmissions, MaxLifetime}
use Rattle.sctp_channels.specs.DataChannels.{DataChannels}
use Rattle.sctp_channels.specs.Channels.{no_channels}
use Rattle.sctp_c_channels.specs.declared.records.ChannelRecord.{ChannelRecord}
use Rattle.sctp_c_channels.specs.declared.starting.StartRecord.{StartRecord}

-- ---- how a channel is opened

-- the struct's numbers, each at its place; where the struct ends before, an ordered and reliable channel of normal priority
abbrev pub channel_in : List ℕ → ChannelRecord
channel_in bytes = record { flags = u32_or 8 0 bytes; max_retransmissions = u32_or 12 0 bytes; lifetime = u32_or 16 0 bytes; priority = u32_or 20 256 bytes }

-- flags that there are, of the two of partial reliability one at most, and a priority of 16 bits
abbrev pub IsKnown : ChannelRecord → Type 0
IsKnown r = (r.flags < 6) × (r.priority < 2 ^ 16)

abbrev pub given_reliability : ChannelRecord → Reliability
given_reliability r = cond (r.flags / 2 == 0) Reliable (cond (r.flags / 2 == 1) (MaxLifetime r.lifetime) (MaxRetransmissions r.max_retransmissions))

abbrev pub given_open : ChannelRecord → (label protocol : List ℕ) → Open
given_open r label protocol = record {
  unordered = r.flags % 2 == 1;
  reliability = given_reliability r;
  priority = r.priority;
  label = label;
  protocol = protocol;
}

abbrev pub reliability_flags : Reliability → ℕ
reliability_flags Reliable = 0
reliability_flags (MaxLifetime milliseconds) = 2
reliability_flags (MaxRetransmissions count) = 4

abbrev pub retransmissions_in : Reliability → ℕ
retransmissions_in Reliable = 0
retransmissions_in (MaxLifetime milliseconds) = 0
retransmissions_in (MaxRetransmissions count) = count

abbrev pub lifetime_in : Reliability → ℕ
lifetime_in Reliable = 0
lifetime_in (MaxLifetime milliseconds) = milliseconds
lifetime_in (MaxRetransmissions count) = 0

-- what C sees of a channel beside its texts
abbrev pub shown_channel : Open → ChannelRecord
shown_channel o = record {
  flags = one_if o.unordered + reliability_flags o.reliability;
  max_retransmissions = retransmissions_in o.reliability;
  lifetime = lifetime_in o.reliability;
  priority = o.priority;
}

-- the struct of C, behind its size
abbrev pub channel_bytes : ChannelRecord → List ℕ → List ℕ
channel_bytes r = in_turn (put_u32 8 r.flags ∷ put_u32 12 r.max_retransmissions ∷ put_u32 16 r.lifetime ∷ put_u32 20 r.priority ∷ [])

-- ---- how channels are switched on

abbrev pub start_in : List ℕ → StartRecord
start_in bytes = record {
  role = u32_or 8 0 bytes;
  max_message_size = u32_or 12 262_144 bytes;
  peer_max_message_size = u32_or 16 65_536 bytes;
  max_buffered_amount = u32_or 20 16_777_216 bytes;
  max_kept_bytes = u32_or 24 16_777_216 bytes;
}

abbrev pub started : StartRecord → (stream_count : ℕ) → DataChannels
started r stream_count =
    record { channels = no_channels (r.role == 0) stream_count r.max_message_size r.max_kept_bytes; peer_limit = r.peer_max_message_size; buffer_limit = r.max_buffered_amount; events = []; unanswered = [] }

-- no channels yet, on some number of streams
abbrev pub IsStarted : StartRecord → Option DataChannels → Type 0
IsStarted r None = ⊥
IsStarted r (Some d) = (stream_count : ℕ) × (d ≡ started r stream_count)

-- ---- how far a channel is

abbrev pub state_number : ChannelState → ℕ
state_number states.Closed = 0
state_number states.Connecting = 1
state_number states.Open = 2
state_number states.Closing = 3

abbrev pub shown_state : Channel → ℕ
shown_state c = state_number (state c.lifecycle)

-- ---- what a channel counts

abbrev pub statistics_bytes : Statistics → List ℕ → List ℕ
statistics_bytes s = in_turn (put_u64 8 s.messages_sent ∷ put_u64 16 s.bytes_sent ∷ put_u64 24 s.messages_received ∷ put_u64 32 s.bytes_received ∷ [])

-- ---- a text

-- its length was handed out; at 0 the text stands at the front of the buffer, at 9 it is too long for it
abbrev pub CopiesText : (text : List ℕ) → (needed : ℕ) → (old new : List ℕ) → ℕ → Type 0
CopiesText text needed old new n =
    (needed ≡ length text) × (((n ≡ 0) × (take (length text) new ≡ text)) ⊎ ((n ≡ 9) × (length old < length text)))
