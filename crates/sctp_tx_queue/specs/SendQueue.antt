-- Messages that wait to be sent, by stream.
use Rattle.std.specs.Prelude.{ℕ, ◌+◌, ◌-◌, ◌%◌, ◌^◌, ◌==◌, Bool, true, false, if◌then◌else◌, Option, None, is_some, unwrap_or, option_map, List, [], ◌∷◌, ◌++◌, length, sum_by}
use Rattle.std.specs.List.{list_all}
use Rattle.std.specs.Map.{lookup, set_value, values_of}
use Rattle.std.specs.Ordering.{nat_cmp}
use Rattle.std.specs.BTreeMap.{is_at, insert_entry}
use Rattle.sctp_serial.specs.Time.{later}
use Rattle.sctp_serial.specs.Unwrapped.{origin}
use Rattle.sctp_state.specs.Numbers.{ms}
use Rattle.sctp_state.specs.Options.{Options}
use Rattle.sctp_stream_scheduler.specs.StreamScheduler.{Scheduler, scheduler, set_bytes_remaining}
use Rattle.sctp_state.specs.ThresholdWatcher.{Watched}
use Rattle.sctp_tx_queue.specs.declared.send_queue.message.MessageNumbers.{MessageNumbers}
use Rattle.sctp_tx_queue.specs.declared.send_queue.stream.PauseState.{PauseState}
use Rattle.sctp_tx_queue.specs.declared.send_queue.stream.PauseState.TheVariants.{NotPaused, Pending, Paused, Resetting}

-- ---- the value

-- a message that waits or is partly sent
pub record Queued : Type 0 where
  pub number : ℕ  -- its place in the order of acceptance
  pub ppid : ℕ
  pub payload : List ℕ
  pub is_unordered : Bool
  pub expires : Option ℕ
  pub limit : ℕ  -- how often a fragment may be sent again
  pub lifecycle : Option ℕ
  pub offset : ℕ  -- how much of it is sent
  pub numbers : Option MessageNumbers
  pub fsn : ℕ  -- of its next fragment

-- next numbers are unwrapped, and begin at `origin`
pub record Stream : Type 0 where
  pub messages : List Queued
  pub pause : PauseState
  pub next_ssn : ℕ
  pub next_ordered_mid : ℕ
  pub next_unordered_mid : ℕ
  pub priority : ℕ
  pub threshold : ℕ

abbrev pub Entries : Type 0
Entries = List (ℕ × Stream)

-- all streams that were named, ascending by id
pub record Streams : Type 0 where
  pub entries : Entries
  pub total_threshold : ℕ
  pub default_threshold : ℕ
  pub default_priority : ℕ
  pub avoids_stalls : Bool  -- whether amounts that fall as messages are given up have their events

pub record Queue : Type 0 where
  pub streams : Streams
  pub scheduler : Scheduler
  pub next_number : ℕ
  pub begun : Option ℕ  -- without interleaving, the stream whose message is partly sent

abbrev pub no_streams : Options → Streams
no_streams o = record {
  entries = [];
  total_threshold = o.total_buffered_amount_low_threshold;
  default_threshold = o.default_stream_buffered_amount_low_threshold;
  default_priority = o.default_stream_priority;
  avoids_stalls = o.avoid_stalls;
}

-- the largest payload of a fragment is what a packet holds besides its header and that of an I-DATA chunk
abbrev pub queue : Options → Queue
queue o = record { streams = no_streams o; scheduler = scheduler (o.mtu - 32); next_number = 0; begun = None }

-- ---- amounts, in bytes that are not sent

abbrev pub remaining_bytes : Queued → ℕ
remaining_bytes m = length m.payload - m.offset

abbrev pub amount_of : Stream → ℕ
amount_of s = sum_by remaining_bytes s.messages

abbrev pub total_of : Entries → ℕ
total_of es = sum_by amount_of (values_of es)

abbrev pub watched_amount : Stream → Watched
watched_amount s = record { amount = amount_of s; low_threshold = s.threshold }

abbrev pub watched_total : Streams → Watched
watched_total ss = record { amount = total_of ss.entries; low_threshold = ss.total_threshold }

-- ---- the map of streams

abbrev pub blank_stream : ℕ → ℕ → Stream
blank_stream priority threshold = record {
  messages = [];
  pause = NotPaused;
  next_ssn = origin;
  next_ordered_mid = origin;
  next_unordered_mid = origin;
  priority = priority;
  threshold = threshold;
}

abbrev pub blank : Streams → Stream
blank ss = blank_stream ss.default_priority ss.default_threshold

-- the stream, as it is at first where it isn't there
abbrev pub stream : ℕ → Streams → Stream
stream id ss = unwrap_or (lookup (is_at (nat_cmp id)) ss.entries) (blank ss)

-- with the stream among the others
abbrev pub with_stream : ℕ → Streams → Streams
with_stream id ss =
    if is_some (lookup (is_at (nat_cmp id)) ss.entries) then ss
    else record ss { entries = insert_entry nat_cmp ss.entries id (blank ss) }

-- with this in place of the stream, where it is there
abbrev pub put_stream : ℕ → Stream → Streams → Streams
put_stream id s ss = record ss { entries = set_value (is_at (nat_cmp id)) ss.entries s }

-- ---- the stream and its scheduler

abbrev pub is_stopped : PauseState → Bool
is_stopped NotPaused = false
is_stopped Pending = false
is_stopped Paused = true
is_stopped Resetting = true

abbrev pub front_left : List Queued → ℕ
front_left [] = 0
front_left (m ∷ rest) = remaining_bytes m

-- what is left of the message that goes next
abbrev pub sendable : Stream → ℕ
sendable s = if is_stopped s.pause then 0 else front_left s.messages

-- the scheduler is given what the stream has to send
abbrev pub set_sendable : ℕ → Stream → Scheduler → Scheduler
set_sendable id s sch = set_bytes_remaining id (sendable s) s.priority sch

-- ---- acceptance

-- the moment from which a message is expired
abbrev pub expiry_of : ℕ → Option ℕ → Option ℕ
expiry_of now lifetime = option_map (λ span. later (later now span) ms) lifetime

abbrev pub push : Queued → Stream → Stream
push m s = record s { messages = s.messages ++ m ∷ [] }

-- the next of the numbers of accepted messages
abbrev pub next_number : ℕ → ℕ
next_number n = (n + 1) % 2 ^ 32

abbrev pub add : ℕ → Queued → Queue → Queue
add id m q =
    let s : Stream = push m (stream id q.streams) in
    record q { streams = put_stream id s (with_stream id q.streams); scheduler = set_sendable id s q.scheduler; next_number = next_number q.next_number }

-- ---- queries

abbrev pub has_nothing : Stream → Bool
has_nothing s = length s.messages == 0

abbrev pub is_empty : Queue → Bool
is_empty q = list_all has_nothing (values_of q.streams.entries)
