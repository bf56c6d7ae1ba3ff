use Rattle.std.proofs.Common.{◌≡◌, ◌<◌, ◌≤◌, ℕ, true, IsSome}
use Rattle.sctp_channels.specs.Channels.{is_own}
use Rattle.sctp_channels.specs.Entries.{channel_at}
use Rattle.sctp_channels.proofs.channels.Channels.free_stream_from.Given as goal

abbrev pub invariant-loop-id : goal.invariant-loop-id
invariant-loop-id l = (k : ℕ) → l.start ≤ k → k < l.id-counter → is_own l.self.is_client k ≡ true → IsSome (channel_at k l.self.entries)
