-- Outgoing streams that are reset (RFC 6525 section 5.1.2).
use Rattle.std.specs.Prelude.{ℕ, ◌==◌, nat_lt, Bool, true, false, if◌then◌else◌, List, [], ◌∷◌, length, take, filter}
use Rattle.sctp_serial.specs.Unwrapped.{origin}
use Rattle.sctp_state.specs.Events.{Emitted, emit_events, emit_given_up, expired_events}
use Rattle.sctp_state.specs.declared.api.GivenUpCause.TheVariants.{Reset}
use Rattle.sctp_tx_queue.specs.declared.send_queue.stream.PauseState.{PauseState}
use Rattle.sctp_tx_queue.specs.declared.send_queue.stream.PauseState.TheVariants.{NotPaused, Pending, Paused, Resetting}
use Rattle.sctp_tx_queue.specs.declared.send_queue.stream.ResetStep.{ResetStep}
use Rattle.sctp_tx_queue.specs.declared.send_queue.stream.ResetStep.TheVariants.{Requested, Performed, Refused}
use Rattle.sctp_tx_queue.specs.SendQueue.{Queued, Stream, Streams, Entries, Queue, stream, with_stream, put_stream, set_sendable}
use Rattle.sctp_tx_queue.specs.Settings.{Changed}

-- ---- a stream is to be reset

abbrev pub is_partly : Queued → Bool
is_partly m = nat_lt 0 m.offset

-- what is emitted of the messages of which nothing is sent: each is given up
abbrev pub emit_unsent : {P : Type 0} → List Queued → Emitted P → Emitted P
emit_unsent [] emitted = emitted
emit_unsent (m ∷ rest) emitted = emit_unsent rest (if is_partly m then emitted else emit_events (expired_events m.lifecycle) (emit_given_up m.number Reset emitted))

-- a stream that flows waits for the end of its partly sent message, if it has one
abbrev pub pause_for_reset : Bool → PauseState → PauseState
pause_for_reset is_empty NotPaused = if is_empty then Paused else Pending
pause_for_reset is_empty Pending = Pending
pause_for_reset is_empty Paused = Paused
pause_for_reset is_empty Resetting = Resetting

abbrev pub prepare_stream : Stream → Stream
prepare_stream s = record s { messages = filter is_partly s.messages; pause = pause_for_reset (length (filter is_partly s.messages) == 0) s.pause }

abbrev pub prepare_reset : {P : Type 0} → ℕ → Queue → Emitted P → Changed P
prepare_reset id q emitted =
    let ss : Streams = put_stream id (prepare_stream (stream id q.streams)) (with_stream id q.streams) in
    record {
      queue = record q { streams = ss; scheduler = set_sendable id (stream id ss) q.scheduler };
      emitted = emit_unsent (stream id q.streams).messages emitted;
    }

-- ---- streams that wait for a request, are in one, or have its answer

abbrev pub is_paused : PauseState → Bool
is_paused NotPaused = false
is_paused Pending = false
is_paused Paused = true
is_paused Resetting = false

abbrev pub is_ready : Stream → Bool
is_ready s = is_paused s.pause

abbrev pub ready : Entries → List ℕ
ready [] = []
ready (e ∷ es) = if is_ready e.1 then e.0 ∷ ready es else ready es

-- its numbers begin again once the reset is performed; a refused one leaves them
abbrev pub after_step : ResetStep → Stream → Stream
after_step Requested s = record s { pause = Resetting }
after_step Performed s = record s { pause = NotPaused; next_ssn = origin; next_ordered_mid = origin; next_unordered_mid = origin }
after_step Refused s = record s { pause = NotPaused }

abbrev pub apply_reset_step : ResetStep → ℕ → Queue → Queue
apply_reset_step step id q =
    let ss : Streams = put_stream id (after_step step (stream id q.streams)) q.streams in
    record q { streams = ss; scheduler = set_sendable id (stream id ss) q.scheduler }

abbrev pub each_stepped : ResetStep → List ℕ → Queue → Queue
each_stepped step [] q = q
each_stepped step (id ∷ ids) q = each_stepped step ids (apply_reset_step step id q)

-- the first streams that wait, at most so many, go into a request
abbrev pub streams_to_request : ℕ → Queue → List ℕ
streams_to_request most q = take most (ready q.streams.entries)

abbrev pub request_resets : ℕ → Queue → Queue
request_resets most q = each_stepped Requested (streams_to_request most q) q

abbrev pub commit_resets : List ℕ → Queue → Queue
commit_resets ids q = each_stepped Performed ids q

abbrev pub roll_back_resets : List ℕ → Queue → Queue
roll_back_resets ids q = each_stepped Refused ids q
