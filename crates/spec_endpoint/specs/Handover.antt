-- A socket is handed over: its record is written and it closes, and another socket takes the record up and goes on in its
-- place. The peer sees nothing of it.
use Rattle.std.specs.Prelude.{ℕ, ◌==◌, not, bit_or, Bool, true, false, Option, Some, None}
use Rattle.sctp_state.specs.declared.api.handover.HandoverCapabilities.{HandoverCapabilities}
use Rattle.sctp_state.specs.declared.api.handover.HandoverSocketState.{HandoverSocketState}
use Rattle.sctp_state.specs.declared.api.handover.HandoverSocketState.TheVariants as handed
use Rattle.sctp_state.specs.declared.api.errors.RestoreError.{RestoreError}
use Rattle.sctp_state.specs.declared.api.errors.RestoreError.TheVariants.{SocketNotClosed, InvalidState}
use Rattle.sctp_capabilities.specs.Capabilities.{Capabilities, zero_checksum_enabled}
use Rattle.sctp_state.specs.Events.{OnConnected, OnClosed}
use Rattle.sctp_state.specs.Handover.{HandoverState, Receive, Transmission, closed_state, no_transmission}
use Rattle.sctp_state.specs.Options.{Options}
use Rattle.sctp_state.specs.Validity.{is_valid_state}
use Rattle.sctp_rx.specs.TrackerHandover as tracker
use Rattle.sctp_rx.specs.ReassemblyHandover as reassembly
use Rattle.sctp_tx_queue.specs.Handover as queue
use Rattle.sctp_tx_queue.specs.Readiness as queued
use Rattle.sctp_tx_queue.specs.Restored as taken_up
use Rattle.sctp_tx.specs.Handover as sender
use Rattle.sctp_tx.specs.RetransmissionQueue.{wake}
use Rattle.spec_endpoint.specs.Association.{Identity, Tcb, tcb, Phase, CookieEchoed, Established, ShutdownPending, ShutdownSent, ShutdownReceived, ShutdownAckSent, State, Closed, CookieWait, Open, Context, EndpointState}
use Rattle.spec_endpoint.specs.Packets.{emit_event_in}
use Rattle.spec_endpoint.specs.ResetRequests.{Request, Requests}
use Rattle.spec_endpoint.specs.Heartbeats.{restart_interval}
use Rattle.spec_endpoint.specs.Sending.{AfterSending, after_sending, open_with, send_buffered}

-- ---- what stands in the way: the bits of the parts

-- messages and items count where none may be handed over
abbrev pub is_strict : Options → Bool
is_strict o = not o.enable_handover_with_outstanding_data

abbrev pub receiving : Tcb → ℕ
receiving t = bit_or (tracker.readiness t.tracker.tracker) (reassembly.readiness t.reassembly)

-- an own reset request that waits for its answer
abbrev pub request_bit : Option Request → ℕ
request_bit None = 0
request_bit (Some r) = 4

abbrev pub request_readiness : Requests → ℕ
request_readiness r = request_bit r.current

abbrev pub block_readiness : (is_strict : Bool) → Tcb → ℕ
block_readiness is_strict t = bit_or (bit_or (receiving t) (sender.readiness is_strict t.sender)) (request_readiness t.requests)

abbrev pub readiness_open : {P : Type 0} → Phase → Tcb → Context P → ℕ
readiness_open (CookieEchoed t1 cookie) t c = 1
readiness_open Established t c = bit_or (queued.readiness (is_strict c.options) c.queue) (block_readiness (is_strict c.options) t)
readiness_open ShutdownPending t c = 1
readiness_open (ShutdownSent t2) t c = 1
readiness_open ShutdownReceived t c = 1
readiness_open (ShutdownAckSent t2) t c = 1

abbrev pub readiness_in : {P : Type 0} → State → Context P → ℕ
readiness_in Closed c = 0
readiness_in (CookieWait tag first t1) c = 1
readiness_in (Open phase t) c = readiness_open phase t c

abbrev pub readiness : {P : Type 0} → EndpointState P → ℕ
readiness s = readiness_in s.state s.context

-- ---- what is written

abbrev pub capabilities_written : Capabilities → HandoverCapabilities
capabilities_written k = record {
  partial_reliability = k.partial_reliability;
  message_interleaving = k.message_interleaving;
  reconfig = k.reconfig;
  zero_checksum = zero_checksum_enabled k;
  negotiated_maximum_incoming_streams = k.incoming;
  negotiated_maximum_outgoing_streams = k.outgoing;
}

-- the number of the next reset request, and that of the peer's last one
abbrev pub own_requests : Tcb → Transmission → Transmission
own_requests t tx = record tx { next_reset_req_sn = t.requests.next }

abbrev pub peer_requests : Tcb → Receive → Receive
peer_requests t rx = record rx { last_completed_reset_req_sn = t.requests.last }

abbrev pub transmission : (now : ℕ) → Tcb → Transmission → Transmission
transmission now t tx = own_requests t (sender.handed_over now t.sender tx)

abbrev pub reception : Tcb → Receive → Receive
reception t rx = peer_requests t (reassembly.write_handover t.reassembly (tracker.write_handover t.tracker rx))

-- a control block in place of what the record has
abbrev pub block_written : (now : ℕ) → Tcb → HandoverState → HandoverState
block_written now t h = record h {
  socket_state = handed.Connected;
  my_verification_tag = t.identity.my_tag;
  my_initial_tsn = t.identity.my_first;
  peer_verification_tag = t.identity.peer_tag;
  peer_initial_tsn = t.identity.peer_first;
  tie_tag = t.identity.tie;
  capabilities = capabilities_written t.capabilities;
  tx = transmission now t h.tx;
  rx = reception t h.rx;
}

-- the record of messages alone
abbrev pub queue_written : {P : Type 0} → Context P → HandoverState
queue_written c = record closed_state { tx = queue.write_handover c.now c.queue no_transmission }

abbrev pub handover_state : {P : Type 0} → Tcb → Context P → HandoverState
handover_state t c = block_written c.now t (queue_written c)

-- nothing is written without a control block
abbrev pub handover_state_in : {P : Type 0} → State → Context P → HandoverState
handover_state_in Closed c = closed_state
handover_state_in (CookieWait tag first t1) c = closed_state
handover_state_in (Open phase t) c = handover_state t c

abbrev pub handed_over : {P : Type 0} → EndpointState P → HandoverState
handed_over s = handover_state_in s.state s.context

-- an event says that the association has left here; the heartbeat timers run on
abbrev pub left_in : {P : Type 0} → State → Context P → EndpointState P
left_in Closed c = record { state = Closed; context = c }
left_in (CookieWait tag first t1) c = record { state = CookieWait tag first t1; context = c }
left_in (Open phase t) c = record { state = Closed; context = emit_event_in OnClosed c }

abbrev pub leave : {P : Type 0} → EndpointState P → EndpointState P
leave s = left_in s.state s.context

abbrev pub left_if : {P : Type 0} → (is_ready : Bool) → EndpointState P → EndpointState P
left_if true s = leave s
left_if false s = s

-- the call, which leaves only a socket that is ready
abbrev pub hand_over : {P : Type 0} → EndpointState P → EndpointState P
hand_over s = left_if (readiness s == 0) s

-- ---- what is read

abbrev pub identity_from : HandoverState → Identity
identity_from h = record {
  my_tag = h.my_verification_tag;
  my_first = h.my_initial_tsn;
  peer_tag = h.peer_verification_tag;
  peer_first = h.peer_initial_tsn;
  tie = h.tie_tag;
}

-- the record says whether there was a method in place of the checksum, which is the own one then
abbrev pub method_if : (is_unsummed : Bool) → (own : ℕ) → ℕ
method_if true own = own
method_if false own = 0

abbrev pub capabilities_from : Options → HandoverCapabilities → Capabilities
capabilities_from o k = record {
  partial_reliability = k.partial_reliability;
  message_interleaving = k.message_interleaving;
  reconfig = k.reconfig;
  zero_checksum_method = method_if k.zero_checksum o.zero_checksum_method;
  incoming = k.negotiated_maximum_incoming_streams;
  outgoing = k.negotiated_maximum_outgoing_streams;
}

-- both sides count their reset requests on
abbrev pub requests_restored : HandoverState → Requests → Requests
requests_restored h r = record r { next = h.tx.next_reset_req_sn; last = h.rx.last_completed_reset_req_sn }

-- the parts of a new control block take up theirs
abbrev pub block_restored : (now : ℕ) → HandoverState → Tcb → Tcb
block_restored now h t = record t {
  tracker = tracker.restore h.rx t.tracker;
  reassembly = reassembly.restore h.rx t.reassembly;
  sender = sender.restore now h.tx t.sender;
  requests = requests_restored h t.requests;
}

abbrev pub tcb_from : (now : ℕ) → Options → HandoverState → Tcb
tcb_from now o h = block_restored now h (tcb o (identity_from h) h.tx.rwnd (capabilities_from o h.capabilities))

abbrev pub context_restored : {P : Type 0} → HandoverState → Context P → Context P
context_restored h c = record c { queue = taken_up.restore c.now h.capabilities.message_interleaving h.tx c.queue; last_tag = h.my_verification_tag }

-- With stalls avoided the timers of items and of heartbeats start (RFC 9260 sections 6.3.2 and 8.3); else with the first data, of items with a SACK too.
abbrev pub woken_if : {P : Type 0} → (avoids_stalls : Bool) → Tcb → Context P → AfterSending P
woken_if true t c = after_sending (record t { sender = wake c.now t.sender }) (record c { heartbeats = restart_interval c.now c.heartbeats })
woken_if false t c = after_sending t c

-- the association goes on; it is new to the user of this socket, and what may be sent goes out
abbrev pub goes_on : {P : Type 0} → AfterSending P → EndpointState P
goes_on x = open_with Established (send_buffered false x.tcb (emit_event_in OnConnected x.context))

abbrev pub take_up : {P : Type 0} → HandoverState → Context P → EndpointState P
take_up h c = goes_on (woken_if c.options.avoid_stalls (tcb_from c.now c.options h) (context_restored h c))

-- ---- whether it is taken up

abbrev pub invalid_unless : (is_valid : Bool) → Option RestoreError
invalid_unless true = None
invalid_unless false = Some InvalidState

abbrev pub restore_refusal_in : State → HandoverState → Option RestoreError
restore_refusal_in Closed h = invalid_unless (is_valid_state h)
restore_refusal_in (CookieWait tag first t1) h = Some SocketNotClosed
restore_refusal_in (Open phase t) h = Some SocketNotClosed

-- of a closed socket nothing is taken up
abbrev pub restored_as : {P : Type 0} → HandoverSocketState → HandoverState → EndpointState P → EndpointState P
restored_as handed.Closed h s = s
restored_as handed.Connected h s = take_up h s.context

abbrev pub restored_unless : {P : Type 0} → (refusal : Option RestoreError) → HandoverState → EndpointState P → EndpointState P
restored_unless None h s = restored_as h.socket_state h s
restored_unless (Some e) h s = s

abbrev pub restore : {P : Type 0} → HandoverState → EndpointState P → EndpointState P
restore h s = restored_unless (restore_refusal_in s.state h) h s
