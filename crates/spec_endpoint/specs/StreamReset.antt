-- Streams that are reset (RFC 6525): RE-CONFIG, and the call.
use Rattle.std.specs.Prelude.{ℕ, ◌&&◌, ◌||◌, nat_lt, Bool, true, false, Option, Some, None, List, [], ◌∷◌, ◌++◌, codes}
use Rattle.sctp_serial.specs.declared.api.StreamId.{StreamId}
use Rattle.sctp_wire.specs.Parameter.{ParameterTree, outgoing_reset_request, incoming_reset_request, reset_response}
use Rattle.sctp_packet.specs.Chunk.{re_config_chunk}
use Rattle.sctp_state.specs.declared.api.ErrorKind.TheVariants.{ProtocolViolation}
use Rattle.sctp_state.specs.declared.api.errors.ResetStreamsError.{ResetStreamsError}
use Rattle.sctp_state.specs.declared.api.errors.ResetStreamsError.TheVariants.{NotConnected, NotSupported}
use Rattle.sctp_state.specs.Events.{Event, OnIncomingStreamReset, OnStreamsResetPerformed, OnStreamsResetFailed, numbers_of}
use Rattle.sctp_state.specs.RetransmissionTimeout.{rto}
use Rattle.sctp_rx.specs.DataTracker.{number_of}
use Rattle.sctp_rx.specs.ReassemblyQueue.{defer, reset}
use Rattle.sctp_tx_queue.specs.SendQueue.{Queue}
use Rattle.sctp_tx_queue.specs.Resets.{prepare_reset, commit_resets, roll_back_resets}
use Rattle.spec_endpoint.specs.Association.{Tcb, Phase, State, Closed, CookieWait, Open, Context, EndpointState, open_as, with_context, where_open}
use Rattle.spec_endpoint.specs.Packets.{emit_event_in, emit_error, emit_chunk}
use Rattle.spec_endpoint.specs.ResetRequests.{nothing_to_do, performed, bad_number, in_progress, is_final, Outcome, Unsettled, Done, Denied, outcome, handle_response, is_last_request, is_next_request, is_known_request, set_last_request}
use Rattle.spec_endpoint.specs.Sending.{AfterSending, after_sending, is_before_cookie_ack, open_with, send_buffered, send_in}

-- what the parameters of a RE-CONFIG have done so far
pub record Handling (P : Type 0) : Type 0 where
  pub tcb : Tcb
  pub context : Context P
  pub responses : List ParameterTree

abbrev pub handling : {P : Type 0} → Tcb → Context P → Handling P
handling t c = record { tcb = t; context = c; responses = [] }

abbrev pub respond : {P : Type 0} → (number result : ℕ) → Handling P → Handling P
respond number result x = record x { responses = x.responses ++ reset_response number result None None ∷ [] }

-- a request is processed now, with this result
abbrev pub process : {P : Type 0} → (number result : ℕ) → Handling P → Handling P
process number result x = respond number result (record x { tcb = record x.tcb { requests = set_last_request number result x.tcb.requests } })

-- ---- the peer resets its outgoing streams (RFC 6525 section 5.2.2)

abbrev pub defers : {P : Type 0} → (number last_tsn : ℕ) → List StreamId → Handling P → Handling P
defers number last_tsn streams x =
    process number in_progress (record x { tcb = record x.tcb { reassembly = defer last_tsn streams x.tcb.reassembly } })

abbrev pub performs : {P : Type 0} → (number : ℕ) → List StreamId → Handling P → Handling P
performs number streams x = process number performed (record x {
  tcb = record x.tcb { reassembly = reset streams x.tcb.reassembly };
  context = emit_event_in (OnIncomingStreamReset (numbers_of streams)) x.context;
})

-- some TSN up to this one did not come yet
abbrev pub is_ahead : (tsn : ℕ) → Tcb → Bool
is_ahead tsn t = nat_lt t.tracker.tracker.seen.front (number_of t.tracker tsn)

-- a reset waits for what was sent before it
abbrev pub resets_unless : {P : Type 0} → (is_ahead : Bool) → (number last_tsn : ℕ) → List StreamId → Handling P → Handling P
resets_unless true number last_tsn streams x = defers number last_tsn streams x
resets_unless false number last_tsn streams x = performs number streams x

abbrev pub resets : {P : Type 0} → (number last_tsn : ℕ) → List StreamId → Handling P → Handling P
resets number last_tsn streams x = resets_unless (is_ahead last_tsn x.tcb) number last_tsn streams x

-- the last request again is answered as before, once it was done
abbrev pub outgoing_by : {P : Type 0} → (is_last is_next is_final : Bool) → (number last_tsn : ℕ) → List StreamId → Handling P → Handling P
outgoing_by true is_next true number last_tsn streams x = respond number x.tcb.requests.result x
outgoing_by true is_next false number last_tsn streams x = resets number last_tsn streams x
outgoing_by false true is_final number last_tsn streams x = resets number last_tsn streams x
outgoing_by false false is_final number last_tsn streams x = respond number bad_number x

abbrev pub on_outgoing : {P : Type 0} → (number last_tsn : ℕ) → List StreamId → Handling P → Handling P
on_outgoing number last_tsn streams x =
    outgoing_by (is_last_request number x.tcb.requests) (is_next_request number x.tcb.requests) (is_final x.tcb.requests.result) number last_tsn streams x

-- ---- the peer asks for a reset of incoming streams: there is nothing to do (RFC 6525 section 5.2.3)

abbrev pub incoming_if : {P : Type 0} → (is_known : Bool) → (number : ℕ) → Handling P → Handling P
incoming_if true number x = process number nothing_to_do x
incoming_if false number x = respond number bad_number x

abbrev pub on_incoming : {P : Type 0} → (number : ℕ) → Handling P → Handling P
on_incoming number x = incoming_if (is_known_request number x.tcb.requests) number x

-- ---- the peer answers the own request: this concerns the request's streams alone

abbrev pub emit_with_queue : {P : Type 0} → Event P → Queue → Context P → Context P
emit_with_queue e q c = record (emit_event_in e c) { queue = q }

abbrev pub on_outcome : {P : Type 0} → Outcome → Context P → Context P
on_outcome Unsettled c = c
on_outcome (Done streams) c = emit_with_queue (OnStreamsResetPerformed streams) (commit_resets streams c.queue) c
on_outcome (Denied streams) c = emit_with_queue (OnStreamsResetFailed streams) (roll_back_resets streams c.queue) c

abbrev pub on_response : {P : Type 0} → (number result : ℕ) → Tcb → Context P → AfterSending P
on_response number result t c =
    after_sending (record t { requests = handle_response c.now (rto t.rtt) number result t.requests }) (on_outcome (outcome number result t.requests.current) c)

abbrev pub with_sent : {P : Type 0} → AfterSending P → Handling P → Handling P
with_sent s x = record x { tcb = s.tcb; context = s.context }

-- ---- RE-CONFIG

abbrev pub is_outgoing : ParameterTree → Bool
is_outgoing (outgoing_reset_request number response last_tsn streams) = true
is_outgoing parameter = false

abbrev pub on_parameter : {P : Type 0} → ParameterTree → Handling P → Handling P
on_parameter (outgoing_reset_request number response last_tsn streams) x = on_outgoing number last_tsn.0 streams x
on_parameter (incoming_reset_request number streams) x = on_incoming number x
on_parameter (reset_response number result sender receiver) x = with_sent (on_response number result x.tcb x.context) x
on_parameter parameter x = x

-- in order, up to a second outgoing request
pub record HandledParameters (P : Type 0) : Type 0 where
  pub handling : Handling P
  pub is_whole : Bool

abbrev pub handled_parameters : {P : Type 0} → (is_whole : Bool) → Handling P → HandledParameters P
handled_parameters is_whole x = record { handling = x; is_whole = is_whole }

abbrev pub handle_next : {P : Type 0} → (is_second : Bool) → (Handling P → HandledParameters P) → ParameterTree → Handling P → HandledParameters P
handle_next true rest parameter x = handled_parameters false x
handle_next false rest parameter x = rest (on_parameter parameter x)

abbrev pub handle_all : {P : Type 0} → List ParameterTree → (has_outgoing : Bool) → Handling P → HandledParameters P
handle_all [] has_outgoing x = handled_parameters true x
handle_all (parameter ∷ parameters) has_outgoing x =
    handle_next (is_outgoing parameter && has_outgoing) (handle_all parameters (is_outgoing parameter || has_outgoing)) parameter x

-- the responses go out in a packet, where there are some
abbrev pub send_responses : {P : Type 0} → List ParameterTree → Tcb → Context P → Context P
send_responses [] t c = c
send_responses (r ∷ rs) t c = emit_chunk (re_config_chunk (r ∷ rs)) t c

-- then what may be sent
abbrev pub finish_reconfig_if : {P : Type 0} → (is_whole : Bool) → Phase → Handling P → EndpointState P
finish_reconfig_if true phase x = open_with phase (send_buffered (is_before_cookie_ack phase) x.tcb (send_responses x.responses x.tcb x.context))
finish_reconfig_if false phase x =
    open_as phase x.tcb
    (emit_error ProtocolViolation (codes "RE-CONFIG chunk must not have multiple Outgoing SSN Reset Request parameters") x.context)

abbrev pub finish_reconfig : {P : Type 0} → Phase → HandledParameters P → EndpointState P
finish_reconfig phase h = finish_reconfig_if h.is_whole phase h.handling

abbrev pub on_reconfig : {P : Type 0} → List ParameterTree → Phase → Tcb → Context P → EndpointState P
on_reconfig [] phase t c = open_as phase t (emit_error ProtocolViolation (codes "RE-CONFIG chunk must have at least one parameter") c)
on_reconfig (p ∷ ps) phase t c = finish_reconfig phase (handle_all (p ∷ ps) false (handling t c))

-- ---- the call

abbrev pub unless_supported : (is_supported : Bool) → Option ResetStreamsError
unless_supported true = None
unless_supported false = Some NotSupported

-- why streams can't be reset
abbrev pub reset_refusal : State → Option ResetStreamsError
reset_refusal Closed = Some NotConnected
reset_refusal (CookieWait tag first t1) = Some NotConnected
reset_refusal (Open phase t) = unless_supported t.capabilities.reconfig

abbrev pub prepare_reset_stream : {P : Type 0} → (stream : ℕ) → Context P → Context P
prepare_reset_stream id c = let x = prepare_reset id c.queue c.emitted in record c { queue = x.queue; emitted = x.emitted }

abbrev pub prepare_all : {P : Type 0} → List ℕ → Context P → Context P
prepare_all [] c = c
prepare_all (id ∷ ids) c = prepare_all ids (prepare_reset_stream id c)

abbrev pub streams_reset_unless : {P : Type 0} → (refusal : Option ResetStreamsError) → List ℕ → EndpointState P → EndpointState P
streams_reset_unless None streams s = where_open send_in (with_context s (prepare_all streams s.context))
streams_reset_unless (Some e) streams s = s

abbrev pub reset_streams : {P : Type 0} → List ℕ → EndpointState P → EndpointState P
reset_streams streams s = streams_reset_unless (reset_refusal s.state) streams s
