-- What a call through a handle does to the channels of the socket behind it.
use Rattle.std.specs.Prelude.{◌≡◌, ℕ}
use Rattle.sctp_channels.specs.Channel.{Channel}
use Rattle.sctp_channels.specs.DataChannels.{DataChannels}
use Rattle.sctp_c_channels.specs.Answers.{OfChannelAt, OnChannels}
use Rattle.sctp_c_records.specs.Answers.{OnAnswer, OnOthers}
use Rattle.sctp_c_channels.specs.Records.{IsStarted}
use Rattle.sctp_c_channels.specs.declared.starting.StartRecord.{StartRecord}
use Rattle.sctp_c.specs.declared.endpoint.Endpoint.{Endpoint}

-- the event and the record that are kept stay
abbrev pub OnChannelsOf : (call : DataChannels → ℕ → DataChannels → Type 0) → Endpoint → ℕ → Endpoint → Type 0
OnChannelsOf call e n f = OnChannels call e.channels n f.channels × ((f.event ≡ e.event) × (f.handed_over ≡ e.handed_over))

-- channels are switched on where there are none; nothing else changes
abbrev pub StartsOf : StartRecord → Endpoint → ℕ → Endpoint → Type 0
StartsOf r e n f = OnAnswer 0 n (IsStarted r f.channels) × (OnOthers 0 n (f.channels ≡ e.channels) × (f ≡ record e { channels = f.channels }))

-- a question about the channel of a stream changes nothing
abbrev pub AsksChannel : ℕ → (answer : Channel → ℕ → Type 0) → Endpoint → ℕ → Endpoint → Type 0
AsksChannel id answer e n f = OfChannelAt id (λ c. answer c n) e.channels n × (f ≡ e)
