-- Thresholds and priorities of streams, and messages that are given up while they are partly sent.
use Rattle.std.specs.Prelude.{ℕ, ◌==◌, Bool, false, if◌then◌else◌, Option, Some, None, List, [], ◌∷◌}
use Rattle.sctp_state.specs.Events.{Emitted, emit_events, expired_events, OnBufferedAmountLow}
use Rattle.sctp_stream_scheduler.specs.StreamScheduler.{enable_message_interleaving}
use Rattle.sctp_state.specs.ThresholdWatcher.{crosses}
use Rattle.sctp_tx_queue.specs.SendQueue.{Queued, Stream, Streams, Queue, watched_amount, stream, with_stream, put_stream, set_sendable}
use Rattle.sctp_tx_queue.specs.Produced.{pause_if_pending, when, emit_fallen}

pub record Changed (P : Type 0) : Type 0 where
  pub queue : Queue
  pub emitted : Emitted P

-- ---- settings of a stream, which is there from then on

abbrev pub with_threshold : ℕ → Stream → Stream
with_threshold bytes s = record s { threshold = bytes }

abbrev pub with_priority : ℕ → Stream → Stream
with_priority priority s = record s { priority = priority }

-- an amount that was above the threshold and is at most the new one is low
abbrev pub set_low_threshold : {P : Type 0} → ℕ → ℕ → Queue → Emitted P → Changed P
set_low_threshold id bytes q emitted =
    let s : Stream = stream id q.streams in
    record {
      queue = record q { streams = put_stream id (with_threshold bytes s) (with_stream id q.streams) };
      emitted = emit_events (when (crosses (watched_amount s) (watched_amount (with_threshold bytes s))) (OnBufferedAmountLow id)) emitted;
    }

-- a finish time that is there stays
abbrev pub set_priority : ℕ → ℕ → Queue → Queue
set_priority id priority q = record q { streams = put_stream id (with_priority priority (stream id q.streams)) (with_stream id q.streams) }

abbrev pub set_mode : Bool → Queue → Queue
set_mode is_interleaved q = record q { scheduler = enable_message_interleaving is_interleaved q.scheduler }

-- ---- a message whose rest isn't to be sent

-- its lifecycle id, where it is the first of its stream
abbrev pub front_discarded : ℕ → List Queued → Option (Option ℕ)
front_discarded number [] = None
front_discarded number (m ∷ rest) = if m.number == number then Some m.lifecycle else None

abbrev pub is_front : ℕ → List Queued → Bool
is_front number [] = false
is_front number (m ∷ rest) = m.number == number

abbrev pub without_front : ℕ → List Queued → Stream → Stream
without_front number [] s = s
without_front number (m ∷ rest) s = if m.number == number then record s { messages = rest; pause = pause_if_pending s.pause } else s

abbrev pub streams_discarded : ℕ → ℕ → Streams → Streams
streams_discarded id number ss = put_stream id (without_front number (stream id ss).messages (stream id ss)) ss

abbrev pub begun_without : ℕ → Option ℕ → Option ℕ
begun_without id None = None
begun_without id (Some begun) = if begun == id then None else Some begun

abbrev pub discard_from : {P : Type 0} → ℕ → Streams → Option (Option ℕ) → Queue → Emitted P → Changed P
discard_from id ss None q emitted = record { queue = record q { streams = ss }; emitted = emitted }
discard_from id ss (Some lifecycle) q emitted = record {
  queue = record q { streams = ss; scheduler = set_sendable id (stream id ss) q.scheduler; begun = begun_without id q.begun };
  emitted = emit_fallen id q.streams ss (emit_events (expired_events lifecycle) emitted);
}

abbrev pub discard : {P : Type 0} → ℕ → ℕ → Queue → Emitted P → Changed P
discard id number q emitted = discard_from id (streams_discarded id number q.streams) (front_discarded number (stream id q.streams).messages) q emitted
