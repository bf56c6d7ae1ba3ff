-- What a queue is once it was written into a record and the record is taken up, at the same moment: all that is not written
-- in full is read anew.
use Rattle.std.specs.Prelude.{◌≡◌, ℕ, ◌+◌, ◌%◌, ◌^◌, Bool, if◌then◌else◌, option_map, map}
use Rattle.std.specs.List.Sorted.{IsStrictlySortedBy}
use Rattle.std.specs.Map.{keys_of}
use Rattle.std.specs.Ordering.{nat_cmp}
use Rattle.sctp_serial.specs.Unwrapped.{origin, u32_space, halves, wire}
use Rattle.sctp_state.specs.Handover.{Transmission}
use Rattle.sctp_state.specs.HandoverTimes.{moment_again, lifecycle_again}
use Rattle.sctp_tx_queue.specs.declared.send_queue.message.MessageNumbers.{MessageNumbers}
use Rattle.sctp_tx_queue.specs.declared.send_queue.stream.PauseState.TheVariants.{NotPaused}
use Rattle.sctp_tx_queue.specs.SendQueue.{Queued, Stream, Entries, Queue}
use Rattle.sctp_tx_queue.specs.Handover.{write_handover}
use Rattle.sctp_tx_queue.specs.Restored.{restore}

-- the number that is written the same and lies in the first of its spaces
abbrev pub again : ℕ → ℕ → ℕ
again space n = origin + wire space 0 n

abbrev pub numbers_again : Bool → MessageNumbers → MessageNumbers
numbers_again is_unordered n = record { ssn = if is_unordered then origin else again halves n.ssn; mid = again u32_space n.mid }

abbrev pub message_again : ℕ → Queued → Queued
message_again now m = record m {
  expires = option_map (moment_again now) m.expires;
  lifecycle = lifecycle_again m.lifecycle;
  numbers = option_map (numbers_again m.is_unordered) m.numbers;
}

abbrev pub stream_again : ℕ → ℕ → Stream → Stream
stream_again now threshold s = record {
  messages = map (message_again now) s.messages;
  pause = NotPaused;
  next_ssn = again halves s.next_ssn;
  next_ordered_mid = again u32_space s.next_ordered_mid;
  next_unordered_mid = again u32_space s.next_unordered_mid;
  priority = s.priority;
  threshold = threshold;
}

abbrev pub entries_again : ℕ → ℕ → Entries → Entries
entries_again now threshold es = map (λ e. (e.0, stream_again now threshold e.1)) es

-- the streams and messages of a queue come back, in whatever queue the record is taken up
pub record ComesBack (now : ℕ) (is_interleaved : Bool) (tx : Transmission) (q r : Queue) : Type 0 where
  pub streams : (restore now is_interleaved (write_handover now q tx) r).streams.entries ≡ entries_again now r.streams.default_threshold q.streams.entries
  pub count : (restore now is_interleaved (write_handover now q tx) r).next_number ≡ q.next_number % 2 ^ 32

abbrev pub EachComesBack : Type 0
EachComesBack = (now : ℕ) (is_interleaved : Bool) (tx : Transmission) (q r : Queue) → IsStrictlySortedBy nat_cmp (keys_of q.streams.entries) → ComesBack now is_interleaved tx q r
