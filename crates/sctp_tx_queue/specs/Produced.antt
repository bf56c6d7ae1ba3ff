-- Fragments of queued messages, in the scheduler's order; messages that expired before their first one; and what is left
-- of a message that was given up.
use Rattle.std.specs.Prelude.{ℕ, zero, suc, ◌+◌, ◌-◌, ◌%◌, ◌^◌, ◌==◌, ◌&&◌, not, nat_le, Bool, true, false, if◌then◌else◌, Option, Some, None, is_some, unwrap_or, option_map, List, [], ◌∷◌, ◌++◌, length, take, drop}
use Rattle.sctp_serial.specs.Unwrapped.{origin, u32_space, halves, wire}
use Rattle.sctp_state.specs.Events.{Event, OnBufferedAmountLow, OnTotalBufferedAmountLow, OnLifecycleMessageFullySent, Emitted, emit_events, emit_given_up, expired_events}
use Rattle.sctp_state.specs.declared.api.GivenUpCause.TheVariants.{Lifetime}
use Rattle.sctp_stream_scheduler.specs.StreamScheduler.{Scheduler, accept, peek, set_bytes_remaining}
use Rattle.sctp_state.specs.ThresholdWatcher.{crosses}
use Rattle.sctp_chunk.specs.Chunk.{FragmentTree}
use Rattle.sctp_tx_queue.specs.declared.send_queue.message.MessageNumbers.{MessageNumbers}
use Rattle.sctp_tx_queue.specs.declared.send_queue.stream.PauseState.{PauseState}
use Rattle.sctp_tx_queue.specs.declared.send_queue.stream.PauseState.TheVariants.{NotPaused, Pending, Paused, Resetting}
use Rattle.sctp_tx_queue.specs.SendQueue.{Queued, Stream, Streams, Queue, remaining_bytes, watched_amount, watched_total, stream, put_stream, sendable, front_left}

-- a fragment, and what its message was accepted with
pub record Produced : Type 0 where
  pub number : ℕ
  pub fragment : FragmentTree
  pub expires : Option ℕ
  pub limit : ℕ
  pub lifecycle : Option ℕ  -- with the end alone

-- ---- expired messages

abbrev pub is_expired : ℕ → Option ℕ → Bool
is_expired now None = false
is_expired now (Some moment) = nat_le moment now

-- expired, and no fragment of it is sent
abbrev pub is_stale : ℕ → Queued → Bool
is_stale now m = not (is_some m.numbers) && is_expired now m.expires

abbrev pub is_front_stale : ℕ → List Queued → Bool
is_front_stale now [] = false
is_front_stale now (m ∷ rest) = is_stale now m

-- without the expired messages at the front
abbrev pub fresh : ℕ → List Queued → List Queued
fresh now [] = []
fresh now (m ∷ rest) = if is_stale now m then fresh now rest else m ∷ rest

-- what is emitted of them
abbrev pub emit_expired : {P : Type 0} → ℕ → List Queued → Emitted P → Emitted P
emit_expired now [] emitted = emitted
emit_expired now (m ∷ rest) emitted = if is_stale now m then emit_expired now rest (emit_events (expired_events m.lifecycle) (emit_given_up m.number Lifetime emitted)) else emitted

-- whether no message is left then, where some were dropped
abbrev pub left_empty : ℕ → List Queued → Option Bool
left_empty now ms = if is_front_stale now ms then Some (length (fresh now ms) == 0) else None

abbrev pub without_stale : ℕ → Stream → Stream
without_stale now s = record s { messages = fresh now s.messages }

-- ---- the next fragment of a stream

-- one more, as long as the count is below 2^64
abbrev pub next_wrapping : ℕ → ℕ
next_wrapping n = (n + 1) % 2 ^ 64

-- the numbers that the message has or takes
abbrev pub numbers_of : Stream → Queued → MessageNumbers
numbers_of s m =
    unwrap_or m.numbers (record {
      ssn = if m.is_unordered then origin else s.next_ssn;
      mid = if m.is_unordered then s.next_unordered_mid else s.next_ordered_mid;
    })

-- the stream once the message has its numbers
abbrev pub took : Queued → Stream → Stream
took m s =
    if is_some m.numbers then s
    else (if m.is_unordered then record s { next_unordered_mid = next_wrapping s.next_unordered_mid }
    else record s { next_ssn = next_wrapping s.next_ssn; next_ordered_mid = next_wrapping s.next_ordered_mid })

abbrev pub piece : ℕ → ℕ → MessageNumbers → Queued → FragmentTree
piece id size n m = record {
  stream_id = id;
  is_unordered = m.is_unordered;
  ssn = wire halves 0 n.ssn;
  mid = wire u32_space 0 n.mid;
  fsn = m.fsn;
  ppid = m.ppid;
  payload = take size (drop m.offset m.payload);
  is_beginning = m.offset == 0;
  is_end = nat_le (remaining_bytes m) size;
}

abbrev pub ends : ℕ → Queued → Bool
ends size m = nat_le (remaining_bytes m) size

abbrev pub made_of : ℕ → ℕ → MessageNumbers → Queued → Produced
made_of id size n m = record {
  number = m.number;
  fragment = piece id size n m;
  expires = m.expires;
  limit = m.limit;
  lifecycle = if ends size m then m.lifecycle else None;
}

-- the message after a fragment that isn't its end
abbrev pub move_past : ℕ → MessageNumbers → Queued → Queued
move_past size n m = record m { offset = m.offset + size; numbers = Some n; fsn = (m.fsn + 1) % 2 ^ 32 }

-- it takes its numbers with a fragment of this size, and goes on
abbrev pub needs_room : ℕ → Queued → Bool
needs_room size m = not (is_some m.numbers) && not (ends size m)

-- no message is partly sent any more
abbrev pub pause_if_pending : PauseState → PauseState
pause_if_pending NotPaused = NotPaused
pause_if_pending Pending = Paused
pause_if_pending Paused = Paused
pause_if_pending Resetting = Resetting

-- the same by the list of the stream's messages
abbrev pub front_numbers : List Queued → Stream → MessageNumbers
front_numbers [] s = record { ssn = 0; mid = 0 }
front_numbers (m ∷ rest) s = numbers_of s m

abbrev pub front_took : List Queued → Stream → Stream
front_took [] s = s
front_took (m ∷ rest) s = took m s

abbrev pub front_made : ℕ → ℕ → MessageNumbers → List Queued → Option Produced
front_made id size n [] = None
front_made id size n (m ∷ rest) = Some (made_of id size n m)

abbrev pub front_needs_room : ℕ → List Queued → Bool
front_needs_room size [] = false
front_needs_room size (m ∷ rest) = needs_room size m

abbrev pub front_ends : ℕ → List Queued → Bool
front_ends size [] = false
front_ends size (m ∷ rest) = ends size m

abbrev pub pause_after : Bool → PauseState → PauseState
pause_after is_end p = if is_end then pause_if_pending p else p

abbrev pub moved_front : ℕ → MessageNumbers → List Queued → List Queued
moved_front size n [] = []
moved_front size n (m ∷ rest) = if ends size m then rest else move_past size n m ∷ rest

-- what is left of the message at the front then
abbrev pub front_left_after : ℕ → List Queued → ℕ
front_left_after size [] = 0
front_left_after size (m ∷ rest) = if ends size m then front_left rest else remaining_bytes m - size

-- the fragment that a stream gives next
abbrev pub next_fragment : ℕ → ℕ → Stream → Option Produced
next_fragment id size s = front_made id size (front_numbers s.messages s) s.messages

-- the stream after it
abbrev pub advance : ℕ → Stream → Stream
advance size s = record (front_took s.messages s) {
  messages = moved_front size (front_numbers s.messages s) s.messages;
  pause = pause_after (front_ends size s.messages) s.pause;
}

-- ---- what is emitted of a fragment

abbrev pub when : {P : Type 0} → Bool → Event P → List (Event P)
when true e = e ∷ []
when false e = []

abbrev pub fully_sent : {P : Type 0} → Option ℕ → List (Event P)
fully_sent None = []
fully_sent (Some id) = OnLifecycleMessageFullySent id ∷ []

-- amounts that fell to their thresholds, and a message that was handed out whole
abbrev pub production : {P : Type 0} → ℕ → Bool → Bool → Option ℕ → List (Event P)
production id is_low is_total_low lifecycle = when is_low (OnBufferedAmountLow id) ++ (when is_total_low OnTotalBufferedAmountLow ++ fully_sent lifecycle)

-- ---- a turn of one stream

pub record Turn (P : Type 0) : Type 0 where
  pub queue : Queue
  pub emitted : Emitted P
  pub made : Option Produced

-- the streams without the expired messages at the front of this one, and what they are after its next fragment
abbrev pub streams_without_stale : ℕ → ℕ → Streams → Streams
streams_without_stale now id ss = put_stream id (without_stale now (stream id ss)) ss

abbrev pub streams_after : ℕ → ℕ → Streams → Streams
streams_after id size ss = put_stream id (advance size (stream id ss)) ss

-- with `avoid_stalls` alone: whether the amount of a stream, or of all, falls to its threshold where these streams come to be those
abbrev pub falls_low : ℕ → Streams → Streams → Bool
falls_low id before after = before.avoids_stalls && crosses (watched_amount (stream id before)) (watched_amount (stream id after))

abbrev pub total_falls_low : Streams → Streams → Bool
total_falls_low before after = before.avoids_stalls && crosses (watched_total before) (watched_total after)

-- what is emitted of it, without a fragment
abbrev pub emit_fallen : {P : Type 0} → ℕ → Streams → Streams → Emitted P → Emitted P
emit_fallen id before after emitted = emit_events (production id (falls_low id before after) (total_falls_low before after) None) emitted

-- what is emitted as the expired messages at the front of a stream are dropped
abbrev pub emit_stale : {P : Type 0} → ℕ → ℕ → Streams → Emitted P → Emitted P
emit_stale now id ss emitted = emit_fallen id ss (streams_without_stale now id ss) (emit_expired now (stream id ss).messages emitted)

abbrev pub emitted_made : {P : Type 0} → ℕ → Bool → Bool → Option Produced → Emitted P → Emitted P
emitted_made id is_low is_total_low None emitted = emitted
emitted_made id is_low is_total_low (Some made) emitted = emit_events (production id is_low is_total_low made.lifecycle) emitted

abbrev pub emitted_of : {P : Type 0} → ℕ → ℕ → Streams → Emitted P → Emitted P
emitted_of id size ss emitted =
    let s : Stream = stream id ss in
    emitted_made id (crosses (watched_amount s) (watched_amount (advance size s)))
    (crosses (watched_total ss) (watched_total (streams_after id size ss))) (next_fragment id size s) emitted

-- the stream that sent a fragment goes in line for its next one; one that had none leaves
abbrev pub in_line : ℕ → ℕ → ℕ → Option Produced → Scheduler → Scheduler
in_line id bytes priority None sch = set_bytes_remaining id 0 0 sch
in_line id bytes priority (Some made) sch = set_bytes_remaining id bytes priority (accept id sch)

-- whether a message is partly sent that no other may interrupt
abbrev pub begun_by : ℕ → Bool → Option Produced → Option ℕ
begun_by id is_interleaved None = None
begun_by id is_interleaved (Some made) = if made.fragment.is_end then None else (if is_interleaved then None else Some id)

abbrev pub turn_from : {P : Type 0} → ℕ → ℕ → Streams → Queue → Emitted P → Turn P
turn_from id size ss q emitted =
    let made : Option Produced = next_fragment id size (stream id ss) in
    let after : Streams = streams_after id size ss in
    record {
      queue = record q {
        streams = after;
        scheduler = in_line id (sendable (stream id after)) (stream id after).priority made q.scheduler;
        begun = begun_by id q.scheduler.is_interleaved made;
      };
      emitted = emitted_of id size ss emitted;
      made = made;
    }

abbrev pub turn : {P : Type 0} → ℕ → ℕ → ℕ → Queue → Emitted P → Turn P
turn now id size q emitted = turn_from id size (streams_without_stale now id q.streams) q (emit_stale now id q.streams emitted)

-- ---- the next fragment of all

-- a message that is begun is ended first, unless messages are interleaved
abbrev pub next_stream : Queue → Option ℕ
next_stream q = if is_some q.begun then q.begun else peek q.scheduler

abbrev pub idle : {P : Type 0} → Queue → Emitted P → Turn P
idle q emitted = record { queue = q; emitted = emitted; made = None }

-- streams whose messages all expired give none, and the next one is asked
abbrev pub produce_within : {P : Type 0} → ℕ → ℕ → ℕ → Queue → Emitted P → Turn P
produce_within zero now size q emitted = idle q emitted
produce_within (suc turns) now size q emitted =
    unwrap_or (option_map (λ id.
    let t = turn now id size q emitted in
    if is_some t.made then t else produce_within turns now size t.queue t.emitted) (next_stream q)) (idle q emitted)

-- each turn without a fragment ends a stream's line, so there are enough
abbrev pub produce : {P : Type 0} → ℕ → ℕ → Queue → Emitted P → Turn P
produce now size q emitted = produce_within (length q.scheduler.times + 2) now size q emitted
