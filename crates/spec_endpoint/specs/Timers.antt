-- Time: which timers a state looks at, and what their expiries lead to.
use Rattle.std.specs.Prelude.{ℕ, ◌||◌, ◌&&◌, not, ◌==◌, nat_lt, nat_le, min, max, Bool, true, false, List, codes}
use Rattle.sctp_serial.specs.Time.{forever}
use Rattle.sctp_state.specs.declared.api.ErrorKind.TheVariants.{TooManyRetries}
use Rattle.sctp_state.specs.TxErrorCounter.{one_error, is_exhausted}
use Rattle.sctp_state.specs.RetransmissionTimeout.{rto}
use Rattle.sctp_state.specs.Timer.{Timer, is_due, is_running, expire, next_expiry}
use Rattle.sctp_state.specs.Events.{OnAborted}
use Rattle.sctp_tx_outstanding.specs.Losses.{Step, nack_all}
use Rattle.sctp_tx_outstanding.specs.Forward.{is_forward_due}
use Rattle.sctp_rx.specs.DataTracker.{ack_timeout, is_ack_due}
use Rattle.sctp_tx.specs.RetransmissionQueue.{timed_out_sender}
use Rattle.spec_endpoint.specs.Association.{Tcb, Phase, CookieEchoed, Established, ShutdownPending, ShutdownSent, ShutdownReceived, ShutdownAckSent, State, Closed, CookieWait, Open, Context, EndpointState, open_as}
use Rattle.spec_endpoint.specs.Heartbeats.{send_heartbeat_if, heartbeat_timeout_if, expiry}
use Rattle.spec_endpoint.specs.ResetRequests.{lasting, expire_reconfig_timer, clear_deferral, is_unanswered}
use Rattle.spec_endpoint.specs.Sending.{AfterSending, add_request, send_buffered, send_cookie}
use Rattle.spec_endpoint.specs.Shutdown.{over, send_shutdown, send_shutdown_ack, too_many}
use Rattle.spec_endpoint.specs.Opening.{send_init}
use Rattle.spec_endpoint.specs.Packets.{new_packet, emit}

-- ---- the timers of a control block, one after the other

pub record Ticking (P : Type 0) : Type 0 where
  pub tcb : Tcb
  pub context : Context P
  pub has_expired : Bool

-- the delay of an acknowledgement
abbrev pub tick_ack : {P : Type 0} → Ticking P → Ticking P
tick_ack x = record x {
  tcb = record x.tcb { tracker = record x.tcb.tracker { tracker = ack_timeout x.context.now x.tcb.tracker.tracker } };
  has_expired = is_due x.context.now x.tcb.tracker.tracker.delay;
}

abbrev pub timed_out : {P : Type 0} → Step P → Ticking P → Ticking P
timed_out step x = record {
  tcb = record x.tcb { sender = timed_out_sender x.context.now step.items x.tcb.sender };
  context = record x.context { emitted = step.emitted; errors = one_error x.context.errors };
  has_expired = true;
}

abbrev pub t3_if : {P : Type 0} → (is_due : Bool) → Ticking P → Ticking P
t3_if true x = timed_out (nack_all x.tcb.sender.outstanding.items x.context.emitted) x
t3_if false x = x

-- T3-rtx (RFC 9260 section 6.3.3)
abbrev pub tick_t3 : {P : Type 0} → Ticking P → Ticking P
tick_t3 x = t3_if (is_due x.context.now x.tcb.sender.t3) x

-- the interval of heartbeats, at which one goes out
abbrev pub tick_interval : {P : Type 0} → Ticking P → Ticking P
tick_interval x = record x {
  context = send_heartbeat_if (is_due x.context.now x.context.heartbeats.interval) x.tcb x.context;
  has_expired = is_due x.context.now x.context.heartbeats.interval || x.has_expired;
}

-- the time for its answer
abbrev pub tick_timeout : {P : Type 0} → Ticking P → Ticking P
tick_timeout x = record x {
  context = heartbeat_timeout_if (is_due x.context.now x.context.heartbeats.timeout) x.context;
  has_expired = is_due x.context.now x.context.heartbeats.timeout || x.has_expired;
}

-- the reconfiguration timer (RFC 6525 section 5.1.1): the request goes out again, unless this was one error too many
abbrev pub request_again : {P : Type 0} → (is_exhausted : Bool) → Ticking P → Ticking P
request_again true x = x
request_again false x =
    let t : Tcb = record x.tcb { requests = lasting (rto x.tcb.rtt) x.tcb.requests } in
    record x { tcb = t; context = emit (add_request t.requests.current (new_packet x.context.options t)) x.context }

abbrev pub errs_if : {P : Type 0} → (is_error : Bool) → Context P → Context P
errs_if true c = record c { errors = one_error c.errors }
errs_if false c = c

abbrev pub requests_again : {P : Type 0} → Ticking P → Ticking P
requests_again x = request_again (is_exhausted x.context.errors) x

abbrev pub reconfig_timeout : {P : Type 0} → Ticking P → Ticking P
reconfig_timeout x = requests_again (record {
  tcb = record x.tcb { requests = clear_deferral (expire_reconfig_timer x.context.now x.tcb.requests) };
  context = errs_if (is_unanswered x.tcb.requests.current) x.context;
  has_expired = true;
})

abbrev pub requests_if : {P : Type 0} → (is_due : Bool) → Ticking P → Ticking P
requests_if true x = reconfig_timeout x
requests_if false x = x

abbrev pub tick_requests : {P : Type 0} → Ticking P → Ticking P
tick_requests x = requests_if (is_due x.context.now x.tcb.requests.timer) x

abbrev pub ticking : {P : Type 0} → Tcb → Context P → Ticking P
ticking t c = record { tcb = t; context = c; has_expired = false }

unfoldable pub tick_timers : {P : Type 0} → Tcb → Context P → Ticking P
tick_timers t c = tick_requests (tick_timeout (tick_interval (tick_t3 (tick_ack (ticking t c)))))

-- ---- what an expiry leads to at last: the association may have ended

pub record TimerOutcome (P : Type 0) : Type 0 where
  pub tcb : Tcb
  pub context : Context P
  pub has_ended : Bool

abbrev pub timer_outcome : {P : Type 0} → Tcb → Context P → (has_ended : Bool) → TimerOutcome P
timer_outcome t c has_ended = record { tcb = t; context = c; has_ended = has_ended }

abbrev pub closed_if : {P : Type 0} → (has_ended : Bool) → Phase → Tcb → Context P → EndpointState P
closed_if true phase t c = record { state = Closed; context = c }
closed_if false phase t c = open_as phase t c

abbrev pub after_timers : {P : Type 0} → Phase → TimerOutcome P → EndpointState P
after_timers phase x = closed_if x.has_ended phase x.tcb x.context

-- too many errors end the association
abbrev pub abort_if : {P : Type 0} → (is_exhausted : Bool) → Tcb → Context P → TimerOutcome P
abort_if true t c = timer_outcome t (too_many t c).context true
abort_if false t c = timer_outcome t c false

abbrev pub abort_if_exhausted : {P : Type 0} → Tcb → Context P → TimerOutcome P
abort_if_exhausted t c = abort_if (is_exhausted c.errors) t c

abbrev pub abort_or_send_if : {P : Type 0} → (is_exhausted : Bool) → Tcb → Context P → TimerOutcome P
abort_or_send_if true t c = timer_outcome t (too_many t c).context true
abort_or_send_if false t c = let x = send_buffered false t c in timer_outcome x.tcb x.context false

-- else what may be sent goes out
abbrev pub abort_or_send : {P : Type 0} → Tcb → Context P → TimerOutcome P
abort_or_send t c = abort_or_send_if (is_exhausted c.errors) t c

abbrev pub after_ticks_if : {P : Type 0} → (has_expired : Bool) → Tcb → Context P → TimerOutcome P
after_ticks_if true t c = abort_or_send t c
after_ticks_if false t c = timer_outcome t c false

-- With stalls avoided something goes out as well that no timer brings. It is owed at once where an acknowledgement is due, and for a forward point
-- where its limit ends (RFC 3758 section 3.5); never where no packet may go out.
abbrev pub sends_owed : {P : Type 0} → Context P → Bool
sends_owed c = c.options.avoid_stalls && not (c.options.max_burst == 0)

abbrev pub moment_if : (is_due : Bool) → (moment : ℕ) → ℕ
moment_if true moment = moment
moment_if false moment = forever

abbrev pub first_owed : {P : Type 0} → Tcb → Context P → ℕ
first_owed t c =
    min (moment_if (is_ack_due false t.tracker.tracker.ack) c.now) (moment_if (is_forward_due t.sender.outstanding.items) c.forward_from)

abbrev pub owed_moment : {P : Type 0} → Tcb → Context P → ℕ
owed_moment t c = moment_if (sends_owed c) (first_owed t c)

abbrev pub is_owed : {P : Type 0} → Tcb → Context P → Bool
is_owed t c = sends_owed c && nat_le (first_owed t c) c.now

abbrev pub after_ticks : {P : Type 0} → Ticking P → TimerOutcome P
after_ticks x = after_ticks_if (x.has_expired || is_owed x.tcb x.context) x.tcb x.context

-- ---- T2-shutdown, which sends its chunk again (RFC 9260 section 9.2)

abbrev pub t2_expired : {P : Type 0} → (is_running : Bool) → (Tcb → Context P → Context P) → Tcb → Context P → TimerOutcome P
t2_expired true again t c = abort_or_send t (again t c)
t2_expired false again t c = timer_outcome t (too_many t c).context true

abbrev pub t2_if : {P : Type 0} → (is_due : Bool) → (now : ℕ) → (Tcb → Context P → Context P) → Timer → Ticking P → TimerOutcome P
t2_if true now again t2 x = t2_expired (is_running (expire now t2)) again x.tcb x.context
t2_if false now again t2 x = after_ticks x

abbrev pub tick_t2 : {P : Type 0} → (now : ℕ) → (Tcb → Context P → Context P) → Timer → Ticking P → TimerOutcome P
tick_t2 now again t2 x = t2_if (is_due now t2) now again t2 x

-- ---- T1-cookie (RFC 9260 section 5.1): nothing is sent but the COOKIE ECHO and its packet

abbrev pub waits_unless : {P : Type 0} → (has_expired : Bool) → Tcb → Context P → TimerOutcome P
waits_unless true t c = abort_if_exhausted t c
waits_unless false t c = timer_outcome t c false

abbrev pub echoed_again : {P : Type 0} → AfterSending P → TimerOutcome P
echoed_again x = abort_if_exhausted x.tcb x.context

abbrev pub t1_expired : {P : Type 0} → (is_running : Bool) → List ℕ → Tcb → Context P → TimerOutcome P
t1_expired true cookie t c = echoed_again (send_cookie cookie t c)
t1_expired false cookie t c = timer_outcome t (over (OnAborted TooManyRetries (codes "No COOKIE_ACK received")) c) true

-- With stalls avoided what went with it, and is overdue, goes with it again: T3-rtx, which has no moment of its own then, expires with T1-cookie. Else
-- the COOKIE ACK has all its expiries made up at once.
abbrev pub t3_with_cookie : {P : Type 0} → (avoids_stalls : Bool) → Ticking P → Ticking P
t3_with_cookie true x = tick_t3 x
t3_with_cookie false x = x

abbrev pub t1_if : {P : Type 0} → (is_due : Bool) → Timer → List ℕ → Ticking P → TimerOutcome P
t1_if true t1 cookie x =
    let y = t3_with_cookie x.context.options.avoid_stalls x in t1_expired (is_running (expire x.context.now t1)) cookie y.tcb y.context
t1_if false t1 cookie x = waits_unless x.has_expired x.tcb x.context

abbrev pub tick_cookie : {P : Type 0} → Timer → List ℕ → Ticking P → TimerOutcome P
tick_cookie t1 cookie x = t1_if (is_due x.context.now t1) t1 cookie x

-- ---- T1-init

pub record InitOutcome (P : Type 0) : Type 0 where
  pub context : Context P
  pub has_ended : Bool

abbrev pub init_outcome : {P : Type 0} → Context P → (has_ended : Bool) → InitOutcome P
init_outcome c has_ended = record { context = c; has_ended = has_ended }

abbrev pub waiting_unless : {P : Type 0} → (has_ended : Bool) → (tag first : ℕ) → Timer → Context P → EndpointState P
waiting_unless true tag first t1 c = record { state = Closed; context = c }
waiting_unless false tag first t1 c = record { state = CookieWait tag first t1; context = c }

abbrev pub after_init_timer : {P : Type 0} → (tag first : ℕ) → Timer → InitOutcome P → EndpointState P
after_init_timer tag first t1 x = waiting_unless x.has_ended tag first t1 x.context

abbrev pub init_expired : {P : Type 0} → (is_running : Bool) → (tag first : ℕ) → Context P → InitOutcome P
init_expired true tag first c = init_outcome (send_init tag first c) false
init_expired false tag first c = init_outcome (over (OnAborted TooManyRetries (codes "No INIT_ACK received")) c) true

abbrev pub init_if : {P : Type 0} → (is_due : Bool) → (tag first : ℕ) → Timer → Context P → InitOutcome P
init_if true tag first t1 c = init_expired (is_running (expire c.now t1)) tag first c
init_if false tag first t1 c = init_outcome c false

abbrev pub tick_init : {P : Type 0} → (tag first : ℕ) → Timer → Context P → InitOutcome P
tick_init tag first t1 c = init_if (is_due c.now t1) tag first t1 c

-- ---- by state

abbrev pub tick_open : {P : Type 0} → Phase → Tcb → Context P → EndpointState P
tick_open (CookieEchoed t1 cookie) t c =
    after_timers (CookieEchoed (expire c.now t1) cookie) (tick_cookie t1 cookie (tick_ack (ticking t c)))
tick_open Established t c = after_timers Established (after_ticks (tick_timers t c))
tick_open ShutdownPending t c = after_timers ShutdownPending (after_ticks (tick_timers t c))
tick_open (ShutdownSent t2) t c = after_timers (ShutdownSent (expire c.now t2)) (tick_t2 c.now send_shutdown t2 (tick_timers t c))
tick_open ShutdownReceived t c = after_timers ShutdownReceived (after_ticks (tick_timers t c))
tick_open (ShutdownAckSent t2) t c =
    after_timers (ShutdownAckSent (expire c.now t2)) (tick_t2 c.now send_shutdown_ack t2 (tick_timers t c))

abbrev pub tick_in : {P : Type 0} → State → Context P → EndpointState P
tick_in Closed c = record { state = Closed; context = c }
tick_in (CookieWait tag first t1) c = after_init_timer tag first (expire c.now t1) (tick_init tag first t1 c)
tick_in (Open phase t) c = tick_open phase t c

-- a moment before the clock's changes nothing
abbrev pub advance_unless : {P : Type 0} → (is_back : Bool) → (now : ℕ) → EndpointState P → EndpointState P
advance_unless true now s = s
advance_unless false now s = tick_in s.state (record s.context { now = now })

abbrev pub advance : {P : Type 0} → (now : ℕ) → EndpointState P → EndpointState P
advance now s = advance_unless (nat_lt now s.context.now) now s

-- ---- when to call next

abbrev pub tcb_expiry : Tcb → ℕ
tcb_expiry t = min (next_expiry t.requests.timer) (min (next_expiry t.sender.t3) (next_expiry t.tracker.tracker.delay))

abbrev pub running_expiry : {P : Type 0} → Tcb → Context P → ℕ
running_expiry t c = min (owed_moment t c) (min (tcb_expiry t) (expiry c.heartbeats))

abbrev pub phase_expiry : {P : Type 0} → Phase → Tcb → Context P → ℕ
phase_expiry (CookieEchoed t1 cookie) t c = next_expiry t1
phase_expiry Established t c = running_expiry t c
phase_expiry ShutdownPending t c = running_expiry t c
phase_expiry (ShutdownSent t2) t c = min (next_expiry t2) (running_expiry t c)
phase_expiry ShutdownReceived t c = running_expiry t c
phase_expiry (ShutdownAckSent t2) t c = min (next_expiry t2) (running_expiry t c)

abbrev pub timeout_in : {P : Type 0} → State → Context P → ℕ
timeout_in Closed c = forever
timeout_in (CookieWait tag first t1) c = max (next_expiry t1) c.now
timeout_in (Open phase t) c = max (phase_expiry phase t c) c.now

abbrev pub poll_timeout : {P : Type 0} → EndpointState P → ℕ
poll_timeout s = timeout_in s.state s.context
