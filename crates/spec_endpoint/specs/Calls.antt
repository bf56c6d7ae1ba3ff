-- The calls that send, the queries and the settings.
use Rattle.std.specs.Prelude.{ℕ, ◌+◌, ◌*◌, ◌/◌, ◌==◌, ◌||◌, ◌&&◌, not, nat_lt, nat_le, min, max, Bool, true, false, Option, Some, None, unwrap_or, List, [], ◌∷◌, ◌++◌, length, codes, drop}
use Rattle.sctp_serial.specs.Messages.{Message}
use Rattle.sctp_state.specs.declared.api.ErrorKind.TheVariants.{ProtocolViolation, WrongSequence, ResourceExhaustion}
use Rattle.sctp_state.specs.declared.api.SocketState.{SocketState}
use Rattle.sctp_state.specs.declared.api.SocketState.TheVariants as shown
use Rattle.sctp_state.specs.declared.api.errors.SendError.{SendError}
use Rattle.sctp_state.specs.declared.api.errors.SendError.TheVariants.{EmptyPayload, MessageTooLarge, ShuttingDown, ResourceExhaustion as QueueFull, Memory, Failed}
use Rattle.sctp_state.specs.Numbers.{more}
use Rattle.sctp_state.specs.Options.{Options, SendOptions}
use Rattle.sctp_rx.specs.ReassemblyQueue.{Reassembly}
use Rattle.sctp_state.specs.Events.{Event, OnError, OnLifecycleEnd, emit_events}
use Rattle.sctp_tx_queue.specs.SendQueue.{Queued, stream, amount_of, total_of, expiry_of, add}
use Rattle.sctp_tx_queue.specs.Settings as settings
use Rattle.spec_endpoint.specs.Association.{Tcb, Phase, CookieEchoed, Established, ShutdownPending, ShutdownSent, ShutdownReceived, ShutdownAckSent, State, Closed, CookieWait, Open, Context, EndpointState, with_context, where_open, Endpoint}
use Rattle.spec_endpoint.specs.Sending.{send_in, window, force_ack}

-- ---- what `state` answers

abbrev pub shown_phase : Phase → SocketState
shown_phase (CookieEchoed t1 cookie) = shown.Connecting
shown_phase Established = shown.Connected
shown_phase ShutdownPending = shown.ShuttingDown
shown_phase (ShutdownSent t2) = shown.ShuttingDown
shown_phase ShutdownReceived = shown.ShuttingDown
shown_phase (ShutdownAckSent t2) = shown.ShuttingDown

abbrev pub shown_state : State → SocketState
shown_state Closed = shown.Closed
shown_state (CookieWait tag first t1) = shown.Connecting
shown_state (Open phase t) = shown_phase phase

abbrev pub is_shutting_down : SocketState → Bool
is_shutting_down shown.Closed = false
is_shutting_down shown.Connecting = false
is_shutting_down shown.Connected = false
is_shutting_down shown.ShuttingDown = true

-- ---- send

abbrev pub is_queue_full : {P : Type 0} → (stream_id : ℕ) → Context P → Bool
is_queue_full id c =
    nat_le c.options.max_send_buffer_size (total_of c.queue.streams.entries)
    || nat_le c.options.per_stream_send_queue_limit (amount_of (stream id c.queue.streams))

-- the first that applies
abbrev pub send_refusal_by : (is_empty is_large is_late is_full : Bool) → (len limit : ℕ) → Option SendError
send_refusal_by true is_large is_late is_full len limit = Some EmptyPayload
send_refusal_by false true is_late is_full len limit = Some (MessageTooLarge len limit)
send_refusal_by false false true is_full len limit = Some ShuttingDown
send_refusal_by false false false true len limit = Some QueueFull
send_refusal_by false false false false len limit = None

abbrev pub send_refusal : {P : Type 0} → Message → SocketState → Context P → Option SendError
send_refusal m shown c =
    send_refusal_by (length m.payload == 0) (nat_lt c.options.max_message_size (length m.payload)) (is_shutting_down shown) (is_queue_full m.stream c)
    (length m.payload) c.options.max_message_size

abbrev pub send_refusal_of : {P : Type 0} → Message → EndpointState P → Option SendError
send_refusal_of m s = send_refusal m (shown_state s.state) s.context

abbrev pub refusal_events : {P : Type 0} → SendError → List (Event P)
refusal_events EmptyPayload = OnError ProtocolViolation (codes "Unable to send empty message") ∷ []
refusal_events (MessageTooLarge len limit) = OnError ProtocolViolation (codes "Unable to send too large message") ∷ []
refusal_events ShuttingDown = OnError WrongSequence (codes "Unable to send message as the socket is shutting down") ∷ []
refusal_events QueueFull = OnError ResourceExhaustion (codes "Unable to send message as the send queue is full") ∷ []
refusal_events Memory = []
refusal_events Failed = []

abbrev pub lifecycle_end_events : {P : Type 0} → Option ℕ → List (Event P)
lifecycle_end_events None = []
lifecycle_end_events (Some id) = OnLifecycleEnd id ∷ []

-- a message is refused: its lifecycle ends
abbrev pub refuse : {P : Type 0} → SendError → Option ℕ → Context P → Context P
refuse e lifecycle c = record c { emitted = emit_events (lifecycle_end_events lifecycle ++ refusal_events e) c.emitted }

-- as it waits; without a limit its fragments are sent again 65,535 times
abbrev pub queue_entry : (number now : ℕ) → Message → SendOptions → Queued
queue_entry number now m o = record {
  number = number;
  ppid = m.ppid;
  payload = m.payload;
  is_unordered = o.unordered;
  expires = expiry_of now o.lifetime;
  limit = unwrap_or o.max_retransmissions 65535;
  lifecycle = o.lifecycle_id;
  offset = 0;
  numbers = None;
  fsn = 0;
}

-- a message is queued
abbrev pub accept : {P : Type 0} → Message → SendOptions → Context P → Context P
accept m o c = record c {
  queue = add m.stream (queue_entry c.queue.next_number c.now m o) c.queue;
  counts = record c.counts { tx_messages = more c.counts.tx_messages };
}

abbrev pub offered : {P : Type 0} → (refusal : Option SendError) → Message → SendOptions → Context P → Context P
offered None m o c = accept m o c
offered (Some e) m o c = refuse e o.lifecycle_id c

abbrev pub offer : {P : Type 0} → Message → SendOptions → SocketState → Context P → Context P
offer m o shown c = offered (send_refusal m shown c) m o c

abbrev pub sent_unless : {P : Type 0} → (refusal : Option SendError) → EndpointState P → EndpointState P
sent_unless None s = where_open send_in s
sent_unless (Some e) s = s

abbrev pub send : {P : Type 0} → Message → SendOptions → EndpointState P → EndpointState P
send m o s = sent_unless (send_refusal_of m s) (with_context s (offer m o (shown_state s.state) s.context))

-- several: one sending at the end
abbrev pub offer_all : {P : Type 0} → List Message → SendOptions → SocketState → Context P → Context P
offer_all [] o shown c = c
offer_all (m ∷ ms) o shown c = offer_all ms o shown (offer m o shown c)

abbrev pub send_many : {P : Type 0} → List Message → SendOptions → EndpointState P → EndpointState P
send_many ms o s = where_open send_in (with_context s (offer_all ms o (shown_state s.state) s.context))

-- which are refused, by their places
abbrev pub with_refusal : (place : ℕ) → Option SendError → List (ℕ × SendError) → List (ℕ × SendError)
with_refusal place None rest = rest
with_refusal place (Some e) rest = (place, e) ∷ rest

abbrev pub refusals : {P : Type 0} → (place : ℕ) → List Message → SendOptions → SocketState → Context P → List (ℕ × SendError)
refusals place [] o shown c = []
refusals place (m ∷ ms) o shown c = with_refusal place (send_refusal m shown c) (refusals (place + 1) ms o shown (offer m o shown c))

-- ---- settings

abbrev pub set_low_threshold : {P : Type 0} → (id bytes : ℕ) → Context P → Context P
set_low_threshold id bytes c =
    let x = settings.set_low_threshold id bytes c.queue c.emitted in record c { queue = x.queue; emitted = x.emitted }

abbrev pub set_priority : {P : Type 0} → (id priority : ℕ) → Context P → Context P
set_priority id priority c = record c { queue = settings.set_priority id priority c.queue }

abbrev pub set_max_message_size : {P : Type 0} → ℕ → Context P → Context P
set_max_message_size n c = record c { options = record c.options { max_message_size = n } }

-- ---- messages that are ready

abbrev pub ready_in : State → List Message
ready_in Closed = []
ready_in (CookieWait tag first t1) = []
ready_in (Open phase t) = t.reassembly.ready

abbrev pub ready_at : {P : Type 0} → Endpoint P → List Message
ready_at s = ready_in s.endpoint_state.state

abbrev pub without_first_message : Tcb → Tcb
without_first_message t = record t { reassembly = record t.reassembly { ready = drop 1 t.reassembly.ready } }

-- With stalls avoided the peer is told of a window that opens again, where it was too small to be used: a quarter of the whole, or an mtu where that
-- is more, but no more than the whole (RFC 9260 section 6.2, RFC 1122 section 4.2.3.3).
abbrev pub widest_window : Options → ℕ
widest_window o = o.max_receiver_window_buffer_size * 9 / 10

abbrev pub least_window : Options → ℕ
least_window o = min (widest_window o) (max o.mtu (widest_window o / 4))

abbrev pub opens_window : Options → (before after : Reassembly) → Bool
opens_window o before after = o.avoid_stalls && (nat_lt (window before) (least_window o) && nat_le (least_window o) (window after))

abbrev pub told_if : (opens : Bool) → Tcb → Tcb
told_if true t = force_ack t
told_if false t = t

-- the first one is handed out
abbrev pub message_taken : Options → Tcb → Tcb
message_taken o t = told_if (opens_window o t.reassembly (without_first_message t).reassembly) (without_first_message t)

abbrev pub message_taken_in : Options → State → State
message_taken_in o Closed = Closed
message_taken_in o (CookieWait tag first t1) = CookieWait tag first t1
message_taken_in o (Open phase t) = Open phase (message_taken o t)

abbrev pub take_message : {P : Type 0} → EndpointState P → EndpointState P
take_message s = record s { state = message_taken_in s.context.options s.state }

-- some item is kept
abbrev pub keeps_items : State → Bool
keeps_items Closed = false
keeps_items (CookieWait tag first t1) = false
keeps_items (Open phase t) = not (length t.sender.outstanding.items.kept == 0)
