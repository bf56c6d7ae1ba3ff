-- What a call did to the channels of a socket, by the number that it answers.
use Rattle.std.specs.Prelude.{◌≡◌, ℕ, ◌<◌, true, Option, Some, None}
use Rattle.sctp_channels.specs.Channel.{Channel}
use Rattle.sctp_channels.specs.Views.{Open}
use Rattle.sctp_channels.specs.DataChannels.{DataChannels, IsOpenAt, IsShortEnough, with_channels}
use Rattle.sctp_channels.specs.Channels.{close, is_own, negotiate, open_own, sent}
use Rattle.sctp_channels.specs.Steps.{Follows}
use Rattle.sctp_channels.specs.Entries.{channel_at}

-- Where there are channels the call is made on them. Where there are none it answers 23, and there are none then.
abbrev pub OnChannels : (call : DataChannels → ℕ → DataChannels → Type 0) → (old : Option DataChannels) → ℕ → (new : Option DataChannels) → Type 0
OnChannels call None n new = (n ≡ 23) × (new ≡ None)
OnChannels call (Some d) n None = ⊥
OnChannels call (Some d) n (Some e) = call d n e

-- a question, of channels that stay
abbrev pub OfChannels : (answer : DataChannels → Type 0) → Option DataChannels → ℕ → Type 0
OfChannels answer None n = n ≡ 23
OfChannels answer (Some d) n = answer d

-- a question about the channel of a stream
abbrev pub OfChannel : (answer : Channel → Type 0) → Option Channel → ℕ → Type 0
OfChannel answer None n = n ≡ 25
OfChannel answer (Some c) n = answer c

abbrev pub OfChannelAt : ℕ → (answer : Channel → Type 0) → Option DataChannels → ℕ → Type 0
OfChannelAt id answer channels n = OfChannels (λ d. OfChannel answer (channel_at id d.channels.entries) n) channels n

-- the channel was opened, on a stream of this end's that was free
pub record Opened (id : ℕ) (description : Open) (old new : DataChannels) : Type 0 where
  pub done : new ≡ with_channels (open_own id description old.channels) old
  pub free : channel_at id old.channels.entries ≡ None
  pub own : is_own old.channels.is_client id ≡ true
  pub there : id < old.channels.stream_count

-- the channel is there, as both ends agreed, on a stream that was free
pub record Negotiated (id : ℕ) (description : Open) (old new : DataChannels) : Type 0 where
  pub done : new ≡ with_channels (negotiate id description old.channels) old
  pub free : channel_at id old.channels.entries ≡ None

-- a message of so many bytes was accepted, on a channel that takes messages
pub record Sent (id size : ℕ) (old new : DataChannels) : Type 0 where
  pub done : new ≡ with_channels (sent id size old.channels) old
  pub opened : IsOpenAt (channel_at id old.channels.entries)
  pub short : IsShortEnough size old

-- the channel is closed; then what is due is done
abbrev pub IsClosed : ℕ → DataChannels → DataChannels → Type 0
IsClosed id old new = Follows (with_channels (close id old.channels) old) new
