-- What a stream's turn changes: the stream, who is in line, and what is emitted.
use Rattle.std.specs.Prelude.{◌≡◌, ◌≤◌, ℕ, Bool, Option}
use Rattle.sctp_state.specs.Events.{Emitted}
use Rattle.sctp_state.specs.ThresholdWatcher.{crosses}
use Rattle.sctp_stream_scheduler.specs.StreamScheduler.{Scheduler}
use Rattle.sctp_tx_queue.specs.SendQueue.{Stream, amount_of, sendable, watched_amount}
use Rattle.sctp_tx_queue.specs.Produced.{Produced, advance, emitted_made, in_line, next_fragment}

-- the stream sent its next fragment, if it had one
pub record Sent {P : Type 0} (id size : ℕ) (is_total_low : Bool) (found : Option Produced) (s : Stream) (line : Scheduler) (earlier : Emitted P) (after : Stream) (next : Scheduler) (later : Emitted P) : Type 0 where
  pub made : found ≡ next_fragment id size s
  pub stream : after ≡ advance size s
  pub scheduler : next ≡ in_line id (sendable (advance size s)) s.priority (next_fragment id size s) line
  pub emitted : later ≡ emitted_made id (crosses (watched_amount s) (watched_amount (advance size s))) is_total_low (next_fragment id size s) earlier
  pub less : amount_of after ≤ amount_of s

-- all is as it was
pub record Unsent {P : Type 0} (s : Stream) (line : Scheduler) (earlier : Emitted P) (after : Stream) (next : Scheduler) (later : Emitted P) : Type 0 where
  pub stream : after ≡ s
  pub scheduler : next ≡ line
  pub emitted : later ≡ earlier
