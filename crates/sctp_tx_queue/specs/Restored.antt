-- The queue of a socket that takes up another one's record: the messages go on where they were.
use Rattle.std.specs.Prelude.{ℕ, ◌+◌, ◌%◌, ◌^◌, ◌==◌, Bool, if◌then◌else◌, Option, Some, None, unwrap_or, option_map, List, [], ◌∷◌, map, filter}
use Rattle.sctp_serial.specs.Unwrapped.{origin}
use Rattle.sctp_state.specs.declared.api.handover.HandoverOutgoingStream.{HandoverOutgoingStream}
use Rattle.sctp_state.specs.Handover.{StreamMessage, Transmission}
use Rattle.sctp_state.specs.HandoverTimes.{moment_from, lifecycle_from}
use Rattle.sctp_stream_scheduler.specs.StreamScheduler.{Scheduler, scheduler, enable_message_interleaving}
use Rattle.sctp_state.specs.Validity.{is_partly_sent, outgoing_ids}
use Rattle.sctp_tx_queue.specs.declared.send_queue.message.MessageNumbers.{MessageNumbers}
use Rattle.sctp_tx_queue.specs.declared.send_queue.stream.PauseState.TheVariants.{NotPaused}
use Rattle.sctp_tx_queue.specs.SendQueue.{Queued, Stream, Streams, Entries, Queue, stream, set_sendable}

-- ---- a message

-- an unordered message has no SSN
abbrev pub numbers_from : Option ℕ → Option ℕ → Option MessageNumbers
numbers_from mid ssn = option_map (λ n. record { ssn = origin + unwrap_or ssn 0; mid = origin + n }) mid

abbrev pub message_from : ℕ → StreamMessage → Queued
message_from now m = record {
  number = m.message_id;
  ppid = m.ppid;
  payload = m.payload;
  is_unordered = m.unordered;
  expires = option_map (moment_from now) m.expires_in_ms;
  limit = m.max_retransmissions;
  lifecycle = lifecycle_from m.lifecycle_id;
  offset = m.remaining_offset;
  numbers = numbers_from m.mid m.ssn;
  fsn = m.fsn;
}

-- ---- a stream: its messages in the order of the record. It sends, and has the threshold of a new one

abbrev pub is_on : ℕ → StreamMessage → Bool
is_on id m = m.stream_id == id

abbrev pub messages_from : ℕ → ℕ → List StreamMessage → List Queued
messages_from now id ms = map (message_from now) (filter (is_on id) ms)

abbrev pub stream_from : ℕ → ℕ → List StreamMessage → HandoverOutgoingStream → Stream
stream_from now threshold ms s = record {
  messages = messages_from now s.id ms;
  pause = NotPaused;
  next_ssn = origin + s.next_ssn;
  next_ordered_mid = origin + s.next_ordered_mid;
  next_unordered_mid = origin + s.next_unordered_mid;
  priority = s.priority;
  threshold = threshold;
}

abbrev pub entries_from : ℕ → ℕ → List StreamMessage → List HandoverOutgoingStream → Entries
entries_from now threshold ms ss = map (λ s. (s.id, stream_from now threshold ms s)) ss

abbrev pub streams_from : ℕ → Transmission → Streams → Streams
streams_from now tx ss = record ss { entries = entries_from now ss.default_threshold tx.queued_messages tx.streams }

-- ---- the queue

-- the scheduler is given what these streams have to send
abbrev pub each_scheduled : List ℕ → Streams → Scheduler → Scheduler
each_scheduled [] ss sch = sch
each_scheduled (id ∷ ids) ss sch = each_scheduled ids ss (set_sendable id (stream id ss) sch)

-- the virtual time begins at 0
abbrev pub scheduler_from : Bool → List ℕ → Streams → Scheduler → Scheduler
scheduler_from is_interleaved ids ss sch = each_scheduled ids ss (enable_message_interleaving is_interleaved (scheduler sch.most_payload))

-- the stream of the message that is partly sent
abbrev pub partly_sent : List StreamMessage → Option ℕ
partly_sent [] = None
partly_sent (m ∷ rest) = if is_partly_sent m then Some m.stream_id else partly_sent rest

abbrev pub begun_from : Bool → List StreamMessage → Option ℕ
begun_from is_interleaved ms = if is_interleaved then None else partly_sent ms

-- of what the queue was, its defaults and its threshold of the total stay
abbrev pub restore : ℕ → Bool → Transmission → Queue → Queue
restore now is_interleaved tx q =
    let ss : Streams = streams_from now tx q.streams in
    record {
      streams = ss;
      scheduler = scheduler_from is_interleaved (outgoing_ids tx.streams) ss q.scheduler;
      next_number = tx.next_outgoing_message_id % 2 ^ 32;
      begun = begun_from is_interleaved tx.queued_messages;
    }
