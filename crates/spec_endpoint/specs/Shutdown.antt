-- How an association ends: shutdown, close, aborts (RFC 9260 sections 9.1, 9.2), and errors that the peer reports.
use Rattle.std.specs.Prelude.{ℕ, ◌==◌, ◌&&◌, Bool, true, false, None, List, [], ◌∷◌, ◌++◌, length, codes}
use Rattle.sctp_wire.specs.Cause.{CauseTree, user_initiated_abort, protocol_violation}
use Rattle.sctp_wire.specs.CauseText.{cause_text}
use Rattle.sctp_packet.specs.Chunk.{abort_chunk, shutdown_chunk, shutdown_ack_chunk, shutdown_complete_chunk}
use Rattle.sctp_state.specs.declared.api.ErrorKind.TheVariants.{TooManyRetries, PeerReported, ProtocolViolation}
use Rattle.sctp_state.specs.declared.timer.BackoffAlgorithm.TheVariants.{Exponential}
use Rattle.sctp_state.specs.Timer.{Timer, timer, start, set_duration}
use Rattle.sctp_state.specs.RetransmissionTimeout.{rto}
use Rattle.sctp_state.specs.TxErrorCounter.{ErrorCounter, no_errors}
use Rattle.sctp_state.specs.Events.{Event, OnClosed, OnAborted, Emitted}
use Rattle.sctp_rx.specs.DataTracker.{wire_tsn}
use Rattle.sctp_tx_queue.specs.SendQueue.{Queue, is_empty}
use Rattle.sctp_tx_queue.specs.Settings.{Changed}
use Rattle.sctp_tx_queue.specs.Emptied.{empty}
use Rattle.sctp_tx.specs.RetransmissionQueue.{nothing_in_flight}
use Rattle.spec_endpoint.specs.Association.{Tcb, Phase, CookieEchoed, Established, ShutdownPending, ShutdownSent, ShutdownReceived, ShutdownAckSent, State, Closed, CookieWait, Open, Context, EndpointState, open_as}
use Rattle.spec_endpoint.specs.Heartbeats.{stop_heartbeats}
use Rattle.spec_endpoint.specs.Packets.{add, packet_to, emit_event_in, emit_error, emit, emit_chunk}

-- the event that says so; no heartbeats are sent any more
abbrev pub ended : {P : Type 0} → Event P → Context P → Context P
ended e c = record (emit_event_in e c) { heartbeats = stop_heartbeats c.heartbeats }

-- with stalls avoided, neither what waits nor the count of errors goes to another association: it is given up, and they count from 0
abbrev pub empty_if : {P : Type 0} → (avoids_stalls : Bool) → Queue → Emitted P → Changed P
empty_if true q emitted = empty q emitted
empty_if false q emitted = record { queue = q; emitted = emitted }

abbrev pub cleared_if : (clears : Bool) → ErrorCounter → ErrorCounter
cleared_if true e = no_errors e.limit
cleared_if false e = e

abbrev pub emptied_if : {P : Type 0} → (avoids_stalls : Bool) → Context P → Context P
emptied_if avoids_stalls c = let x = empty_if avoids_stalls c.queue c.emitted in record c { queue = x.queue; emitted = x.emitted; errors = cleared_if avoids_stalls c.errors }

abbrev pub over : {P : Type 0} → Event P → Context P → Context P
over e c = emptied_if c.options.avoid_stalls (ended e c)

-- no control block any more
abbrev pub close_with : {P : Type 0} → Event P → Context P → EndpointState P
close_with e c = record { state = Closed; context = over e c }

-- ---- shutdown

abbrev pub t2_shutdown : {P : Type 0} → Tcb → Context P → Timer
t2_shutdown t c = start c.now (timer (rto t.rtt) Exponential c.options.max_retransmissions None)

abbrev pub send_shutdown : {P : Type 0} → Tcb → Context P → Context P
send_shutdown t c = emit_chunk (shutdown_chunk (wire_tsn t.tracker t.tracker.tracker.seen.front)) t c

abbrev pub send_shutdown_ack : {P : Type 0} → Tcb → Context P → Context P
send_shutdown_ack t c = emit_chunk shutdown_ack_chunk t c

-- a phase that may be another one
pub record PhaseStep (P : Type 0) : Type 0 where
  pub phase : Phase
  pub context : Context P

abbrev pub phase_step : {P : Type 0} → Phase → Context P → PhaseStep P
phase_step phase c = record { phase = phase; context = c }

abbrev pub pending_next : {P : Type 0} → (is_quiet : Bool) → Tcb → Context P → PhaseStep P
pending_next true t c = phase_step (ShutdownSent (t2_shutdown t c)) (send_shutdown t c)
pending_next false t c = phase_step ShutdownPending c

abbrev pub received_next : {P : Type 0} → (is_quiet : Bool) → Tcb → Context P → PhaseStep P
received_next true t c = phase_step (ShutdownAckSent (t2_shutdown t c)) (send_shutdown_ack t c)
received_next false t c = phase_step ShutdownReceived c

-- what a shutdown waits for: nothing is in flight; with stalls avoided nothing is kept or queued (RFC 9260 section 9.2)
abbrev pub is_quiet_if : (avoids_stalls is_at_rest has_none_in_flight : Bool) → Bool
is_quiet_if true is_at_rest has_none_in_flight = is_at_rest
is_quiet_if false is_at_rest has_none_in_flight = has_none_in_flight

abbrev pub is_quiet : {P : Type 0} → Tcb → Context P → Bool
is_quiet t c =
    is_quiet_if c.options.avoid_stalls ((length t.sender.outstanding.items.kept == 0) && is_empty c.queue) (nothing_in_flight t.sender.outstanding.items)

-- where it is, a shutdown that waited for that goes on
abbrev pub maybe_send_shutdown_or_ack : {P : Type 0} → Phase → Tcb → Context P → PhaseStep P
maybe_send_shutdown_or_ack (CookieEchoed t1 cookie) t c = phase_step (CookieEchoed t1 cookie) c
maybe_send_shutdown_or_ack Established t c = phase_step Established c
maybe_send_shutdown_or_ack ShutdownPending t c = pending_next (is_quiet t c) t c
maybe_send_shutdown_or_ack (ShutdownSent t2) t c = phase_step (ShutdownSent t2) c
maybe_send_shutdown_or_ack ShutdownReceived t c = received_next (is_quiet t c) t c
maybe_send_shutdown_or_ack (ShutdownAckSent t2) t c = phase_step (ShutdownAckSent t2) c

-- before the COOKIE ACK it waits for nothing that is queued: no COOKIE ECHO goes again, behind which that could go
abbrev pub shut_early : {P : Type 0} → Tcb → Context P → PhaseStep P
shut_early t c = pending_next (nothing_in_flight t.sender.outstanding.items) t c

-- the call

abbrev pub shutdown_in_phase : {P : Type 0} → Phase → Tcb → Context P → PhaseStep P
shutdown_in_phase (CookieEchoed t1 cookie) t c = shut_early t c
shutdown_in_phase Established t c = maybe_send_shutdown_or_ack ShutdownPending t c
shutdown_in_phase ShutdownPending t c = phase_step ShutdownPending c
shutdown_in_phase (ShutdownSent t2) t c = phase_step (ShutdownSent t2) c
shutdown_in_phase ShutdownReceived t c = phase_step ShutdownReceived c
shutdown_in_phase (ShutdownAckSent t2) t c = phase_step (ShutdownAckSent t2) c

abbrev pub open_phase_step : {P : Type 0} → Tcb → PhaseStep P → EndpointState P
open_phase_step t o = open_as o.phase t o.context

abbrev pub shutdown_in : {P : Type 0} → State → Context P → EndpointState P
shutdown_in Closed c = record { state = Closed; context = c }
shutdown_in (CookieWait tag first t1) c = close_with OnClosed c
shutdown_in (Open phase t) c = open_phase_step t (shutdown_in_phase phase t c)

abbrev pub shutdown : {P : Type 0} → EndpointState P → EndpointState P
shutdown s = shutdown_in s.state s.context

-- SHUTDOWN
abbrev pub shut_by_peer : {P : Type 0} → Phase → Tcb → Context P → PhaseStep P
shut_by_peer (CookieEchoed t1 cookie) t c = phase_step (CookieEchoed t1 cookie) c
shut_by_peer Established t c = maybe_send_shutdown_or_ack ShutdownReceived t c
shut_by_peer ShutdownPending t c = maybe_send_shutdown_or_ack ShutdownReceived t c
shut_by_peer (ShutdownSent t2) t c = phase_step (ShutdownAckSent (t2_shutdown t c)) (send_shutdown_ack t c)
shut_by_peer ShutdownReceived t c = phase_step ShutdownReceived c
shut_by_peer (ShutdownAckSent t2) t c = phase_step (ShutdownAckSent (start c.now (set_duration (rto t.rtt) t2))) (send_shutdown_ack t c)

abbrev pub on_shutdown : {P : Type 0} → Phase → Tcb → Context P → EndpointState P
on_shutdown phase t c = open_phase_step t (shut_by_peer phase t c)

-- SHUTDOWN ACK, in a packet under this tag: one that no shutdown asked for is answered under the same tag
-- (RFC 9260 section 8.5.1)
abbrev pub complete_shutdown : {P : Type 0} → Tcb → Context P → EndpointState P
complete_shutdown t c = close_with OnClosed (emit_chunk (shutdown_complete_chunk false) t c)

abbrev pub out_of_the_blue : {P : Type 0} → (tag : ℕ) → Context P → Context P
out_of_the_blue tag c = emit (add (shutdown_complete_chunk true) (packet_to tag c.options.mtu)) c

abbrev pub on_shutdown_ack_open : {P : Type 0} → (tag : ℕ) → Phase → Tcb → Context P → EndpointState P
on_shutdown_ack_open tag (CookieEchoed t1 cookie) t c = open_as (CookieEchoed t1 cookie) t (out_of_the_blue tag c)
on_shutdown_ack_open tag Established t c = open_as Established t (out_of_the_blue tag c)
on_shutdown_ack_open tag ShutdownPending t c = open_as ShutdownPending t (out_of_the_blue tag c)
on_shutdown_ack_open tag (ShutdownSent t2) t c = complete_shutdown t c
on_shutdown_ack_open tag ShutdownReceived t c = open_as ShutdownReceived t (out_of_the_blue tag c)
on_shutdown_ack_open tag (ShutdownAckSent t2) t c = complete_shutdown t c

abbrev pub on_shutdown_ack_in : {P : Type 0} → (tag : ℕ) → State → Context P → EndpointState P
on_shutdown_ack_in tag Closed c = record { state = Closed; context = out_of_the_blue tag c }
on_shutdown_ack_in tag (CookieWait my_tag first t1) c = record { state = CookieWait my_tag first t1; context = out_of_the_blue tag c }
on_shutdown_ack_in tag (Open phase t) c = on_shutdown_ack_open tag phase t c

abbrev pub on_shutdown_ack : {P : Type 0} → (tag : ℕ) → EndpointState P → EndpointState P
on_shutdown_ack tag s = on_shutdown_ack_in tag s.state s.context

-- SHUTDOWN COMPLETE
abbrev pub on_shutdown_complete : {P : Type 0} → Phase → Tcb → Context P → EndpointState P
on_shutdown_complete (CookieEchoed t1 cookie) t c = open_as (CookieEchoed t1 cookie) t c
on_shutdown_complete Established t c = open_as Established t c
on_shutdown_complete ShutdownPending t c = open_as ShutdownPending t c
on_shutdown_complete (ShutdownSent t2) t c = open_as (ShutdownSent t2) t c
on_shutdown_complete ShutdownReceived t c = open_as ShutdownReceived t c
on_shutdown_complete (ShutdownAckSent t2) t c = close_with OnClosed c

-- ---- aborts

abbrev pub abort : {P : Type 0} → CauseTree → Event P → Tcb → Context P → EndpointState P
abort cause e t c = close_with e (emit_chunk (abort_chunk false (cause ∷ [])) t c)

abbrev pub close_in : {P : Type 0} → State → Context P → EndpointState P
close_in Closed c = record { state = Closed; context = c }
close_in (CookieWait tag first t1) c = close_with OnClosed c
close_in (Open phase t) c = abort (user_initiated_abort (codes "Close called")) OnClosed t c

-- the call
abbrev pub close : {P : Type 0} → EndpointState P → EndpointState P
close s = close_in s.state s.context

abbrev pub too_many : {P : Type 0} → Tcb → Context P → EndpointState P
too_many t c =
    abort (user_initiated_abort (codes "Too many retransmissions")) (OnAborted TooManyRetries (codes "Too many retransmissions")) t c

-- what was negotiated forbids a chunk
abbrev pub abort_for_violation : {P : Type 0} → List ℕ → Tcb → Context P → EndpointState P
abort_for_violation reason t c = abort (protocol_violation reason) (OnAborted ProtocolViolation reason) t c

-- ---- ABORT and ERROR

-- each behind a comma
abbrev pub behind_commas : List CauseTree → List ℕ
behind_commas [] = []
behind_commas (cause ∷ causes) = codes "," ++ (cause_text cause ++ behind_commas causes)

abbrev pub causes_text : List CauseTree → List ℕ
causes_text [] = []
causes_text (cause ∷ causes) = cause_text cause ++ behind_commas causes

abbrev pub on_abort : {P : Type 0} → List CauseTree → Phase → Tcb → Context P → EndpointState P
on_abort causes phase t c = close_with (OnAborted PeerReported (causes_text causes)) c

-- with stalls avoided it ends a connect too
abbrev pub refused_if : {P : Type 0} → (avoids_stalls : Bool) → List CauseTree → State → Context P → EndpointState P
refused_if true causes s c = close_with (OnAborted PeerReported (causes_text causes)) c
refused_if false causes s c = record { state = s; context = c }

abbrev pub aborted_in : {P : Type 0} → List CauseTree → State → Context P → EndpointState P
aborted_in causes Closed c = record { state = Closed; context = c }
aborted_in causes (CookieWait tag first t1) c = refused_if c.options.avoid_stalls causes (CookieWait tag first t1) c
aborted_in causes (Open phase t) c = on_abort causes phase t c

abbrev pub aborted : {P : Type 0} → List CauseTree → EndpointState P → EndpointState P
aborted causes s = aborted_in causes s.state s.context

abbrev pub on_error : {P : Type 0} → List CauseTree → Phase → Tcb → Context P → EndpointState P
on_error causes phase t c = open_as phase t (emit_error PeerReported (causes_text causes) c)
