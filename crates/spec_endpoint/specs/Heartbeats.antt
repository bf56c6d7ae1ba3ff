-- Own heartbeats: an end that sends no data asks now and then whether its peer is there (RFC 9260 section 8.3).
use Rattle.std.specs.Prelude.{ℕ, ◌+◌, ◌%◌, ◌^◌, ◌==◌, min, Bool, true, false, Option, Some, None, List, [], ◌∷◌, length, codes}
use Rattle.std.specs.Int.{w32, to_be_bytes}
use Rattle.std.specs.Str.{bytes_eq}
use Rattle.sctp_wire.specs.Parameter.{ParameterTree, heartbeat_info}
use Rattle.sctp_packet.specs.Chunk.{ChunkTree, heartbeat_request_chunk}
use Rattle.sctp_state.specs.declared.api.ErrorKind.TheVariants.{ParseFailed}
use Rattle.sctp_state.specs.TxErrorCounter.{no_errors, one_error}
use Rattle.sctp_state.specs.Timer.{start, stop, expire, next_expiry}
use Rattle.spec_endpoint.specs.Association.{Tcb, Heartbeats, Context}
use Rattle.spec_endpoint.specs.Packets.{emit_error, emit_chunk}

-- ---- the timers

-- the next one is an interval away
abbrev pub restart_interval : (now : ℕ) → Heartbeats → Heartbeats
restart_interval now h = record h { interval = start now h.interval }

abbrev pub restart_interval_if : (is_sending : Bool) → (now : ℕ) → Heartbeats → Heartbeats
restart_interval_if true now h = restart_interval now h
restart_interval_if false now h = h

abbrev pub stop_heartbeats : Heartbeats → Heartbeats
stop_heartbeats h = record h { interval = stop h.interval; timeout = stop h.timeout }

-- at the interval: the next number, whose answer is waited for
abbrev pub next_beat : (now : ℕ) → Heartbeats → Heartbeats
next_beat now h = record {
  interval = expire now h.interval;
  timeout = start now h.timeout;
  counter = (h.counter + 1) % 2 ^ 32;
}

-- ---- HEARTBEAT

-- a number as four bytes
abbrev pub info_of : (counter : ℕ) → List ℕ
info_of counter = to_be_bytes w32 counter

abbrev pub heartbeat_chunk : (counter : ℕ) → ChunkTree
heartbeat_chunk counter = heartbeat_request_chunk (heartbeat_info (info_of counter) ∷ [])

abbrev pub counted_on : {P : Type 0} → Context P → Context P
counted_on c = record c { heartbeats = next_beat c.now c.heartbeats }

abbrev pub emit_heartbeat : {P : Type 0} → Tcb → Context P → Context P
emit_heartbeat t c = emit_chunk (heartbeat_chunk c.heartbeats.counter) t c

abbrev pub send_heartbeat : {P : Type 0} → Tcb → Context P → Context P
send_heartbeat t c = emit_heartbeat t (counted_on c)

abbrev pub send_heartbeat_if : {P : Type 0} → (is_due : Bool) → Tcb → Context P → Context P
send_heartbeat_if true t c = send_heartbeat t c
send_heartbeat_if false t c = c

-- the answer didn't come in time
abbrev pub heartbeat_timeout : {P : Type 0} → Context P → Context P
heartbeat_timeout c = record c {
  heartbeats = record c.heartbeats { timeout = expire c.now c.heartbeats.timeout };
  errors = one_error c.errors;
}

abbrev pub heartbeat_timeout_if : {P : Type 0} → (is_due : Bool) → Context P → Context P
heartbeat_timeout_if true c = heartbeat_timeout c
heartbeat_timeout_if false c = c

abbrev pub expiry : Heartbeats → ℕ
expiry h = min (next_expiry h.interval) (next_expiry h.timeout)

-- ---- HEARTBEAT ACK, in every state

-- what the first parameter of this type holds
abbrev pub info_in : List ParameterTree → Option (List ℕ)
info_in [] = None
info_in (heartbeat_info info ∷ parameters) = Some info
info_in (parameter ∷ parameters) = info_in parameters

-- an answer to the last one: the peer is there
abbrev pub clear_if_last : {P : Type 0} → (is_last : Bool) → Context P → Context P
clear_if_last true c = record c {
  heartbeats = record c.heartbeats { timeout = stop c.heartbeats.timeout };
  errors = no_errors c.errors.limit;
}
clear_if_last false c = c

abbrev pub is_last_info : {P : Type 0} → List ℕ → Context P → Bool
is_last_info info c = bytes_eq info (info_of c.heartbeats.counter)

abbrev pub no_info : {P : Type 0} → Context P → Context P
no_info c = emit_error ParseFailed (codes "Failed to parse HEARTBEAT-ACK; Invalid info parameter") c

abbrev pub ack_by_length : {P : Type 0} → (is_number : Bool) → List ℕ → Context P → Context P
ack_by_length true info c = clear_if_last (is_last_info info c) c
ack_by_length false info c = no_info c

abbrev pub on_heartbeat_info : {P : Type 0} → Option (List ℕ) → Context P → Context P
on_heartbeat_info None c = no_info c
on_heartbeat_info (Some info) c = ack_by_length (length info == 4) info c

abbrev pub on_heartbeat_ack : {P : Type 0} → List ParameterTree → Context P → Context P
on_heartbeat_ack parameters c = on_heartbeat_info (info_in parameters) c
