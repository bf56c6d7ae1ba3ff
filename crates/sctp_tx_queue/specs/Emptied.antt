-- An association has ended: what waits or is partly sent is given up.
use Rattle.std.specs.Prelude.{ℕ, ◌==◌, ◌&&◌, ◌||◌, Bool, not, if◌then◌else◌, is_some, List, [], ◌∷◌, length}
use Rattle.std.specs.Map.{keys_of}
use Rattle.sctp_state.specs.Events.{Emitted, emit_events, emit_given_up, expired_events}
use Rattle.sctp_state.specs.declared.api.GivenUpCause.TheVariants.{Ended}
use Rattle.sctp_stream_scheduler.specs.StreamScheduler.{Scheduler, is_active}
use Rattle.sctp_tx_queue.specs.SendQueue.{Queued, Stream, Streams, Entries, Queue, stream, put_stream, set_sendable, has_nothing, is_empty}
use Rattle.sctp_tx_queue.specs.Restarted.{unbegun}
use Rattle.sctp_tx_queue.specs.Settings.{Changed}

abbrev pub emptied : Stream → Stream
emptied s = record s { messages = [] }

abbrev pub emptied_one : ℕ → Queue → Queue
emptied_one id q =
    let ss : Streams = put_stream id (emptied (stream id q.streams)) q.streams in
    record q { streams = ss; scheduler = set_sendable id (stream id ss) q.scheduler }

abbrev pub each_emptied : List ℕ → Queue → Queue
each_emptied [] q = q
each_emptied (id ∷ ids) q = each_emptied ids (emptied_one id q)

-- what is emitted of messages: each is given up
abbrev pub emit_ended : {P : Type 0} → List Queued → Emitted P → Emitted P
emit_ended [] emitted = emitted
emit_ended (m ∷ rest) emitted = emit_ended rest (emit_events (expired_events m.lifecycle) (emit_given_up m.number Ended emitted))

-- of the messages of all these streams
abbrev pub emit_all_ended : {P : Type 0} → List Stream → Emitted P → Emitted P
emit_all_ended [] emitted = emitted
emit_all_ended (s ∷ ss) emitted = emit_all_ended ss (emit_ended s.messages emitted)

-- of the messages of these streams, each stream emptied in its turn
abbrev pub emit_each_ended : {P : Type 0} → List ℕ → Queue → Emitted P → Emitted P
emit_each_ended [] q emitted = emitted
emit_each_ended (id ∷ ids) q emitted = emit_each_ended ids (emptied_one id q) (emit_ended (stream id q.streams).messages emitted)

-- all streams, ascending by id: their settings and numbers stay
abbrev pub empty : {P : Type 0} → Queue → Emitted P → Changed P
empty q emitted = record {
  queue = unbegun (each_emptied (keys_of q.streams.entries) q);
  emitted = emit_each_ended (keys_of q.streams.entries) q emitted;
}

-- the stream has messages, or is in line
abbrev pub is_to_empty : ℕ → Stream → Scheduler → Bool
is_to_empty id s sch = not (has_nothing s) || is_active id sch

-- those streams, ascending by id: to empty another one changes nothing
abbrev pub streams_to_empty : Scheduler → Entries → List ℕ
streams_to_empty sch [] = []
streams_to_empty sch (e ∷ es) = if is_to_empty e.0 e.1 sch then e.0 ∷ streams_to_empty sch es else streams_to_empty sch es

-- no message waits or is partly sent, and no stream is in line
abbrev pub is_idle : Queue → Bool
is_idle q = not (is_some q.begun) && (is_empty q && (length q.scheduler.times == 0))
