-- What the passing of time emits.
use Rattle.std.proofs.Common.{ℕ, nat_lt, Bool, true, false, List, codes, refl, ◌||◌}
use Rattle.sctp_state.specs.declared.api.ErrorKind.TheVariants.{TooManyRetries}
use Rattle.sctp_state.specs.TxErrorCounter.{is_exhausted}
use Rattle.sctp_state.specs.RetransmissionTimeout.{rto}
use Rattle.sctp_state.specs.Timer.{Timer, is_due, is_running, expire}
use Rattle.sctp_state.specs.Events.{OnAborted}
use Rattle.spec_endpoint.specs.Association.{Tcb, Phase, CookieEchoed, Established, ShutdownPending, ShutdownSent, ShutdownReceived, ShutdownAckSent, State, Closed, CookieWait, Open, Context, EndpointState}
use Rattle.spec_endpoint.specs.Packets.{PacketDraft, new_packet}
use Rattle.spec_endpoint.specs.ResetRequests.{lasting, expire_reconfig_timer, clear_deferral, is_unanswered}
use Rattle.spec_endpoint.specs.Sending.{AfterSending, add_request, send_cookie}
use Rattle.spec_endpoint.specs.Shutdown.{send_shutdown, send_shutdown_ack}
use Rattle.spec_endpoint.specs.Heartbeats.{counted_on, heartbeat_chunk, send_heartbeat_if, heartbeat_timeout_if}
use Rattle.spec_endpoint.specs.Timers.{Ticking, tick_ack, t3_if, tick_t3, tick_interval, tick_timeout, request_again, errs_if, requests_again, reconfig_timeout, requests_if, ticking, tick_timers, TimerOutcome, closed_if, after_timers, abort_if, abort_if_exhausted, abort_or_send_if, abort_or_send, after_ticks_if, after_ticks, t2_expired, t2_if, tick_t2, waits_unless, echoed_again, t1_expired, t1_if, tick_cookie, InitOutcome, waiting_unless, init_expired, init_if, tick_init, tick_open, tick_in, advance_unless, advance, is_owed, t3_with_cookie}
use Rattle.spec_endpoint.specs.Laws.{ends}
use Rattle.proof_endpoint.proofs.StepsLemmas.{most_bytes, Goes, Steps}
use Rattle.proof_endpoint.proofs.EmitsLemmas.{emits_nack_all}
use Rattle.proof_endpoint.proofs.GoesLemmas.{small_new, goes_by, goes_silent, goes_same, goes_then, goes_emit, goes_emit_chunk}
use Rattle.proof_endpoint.proofs.SendingStepsLemmas.{small_add_request, goes_send_buffered, goes_send_cookie}
use Rattle.proof_endpoint.proofs.RowStepsLemmas.{StepsFrom, steps_same, goes_closed, goes_too_many, goes_send_shutdown, goes_send_shutdown_ack}
use Rattle.proof_endpoint.proofs.OpeningStepsLemmas.{goes_send_init}

-- an association that has ended emitted so once
abbrev once : (has_ended : Bool) → ℕ
once true = 1
once false = 0

abbrev pub Leaves : {P : Type 0} → Context P → TimerOutcome P → Type 0
Leaves c x = Goes (once x.has_ended) c x.context

module _ {P : Type 0} where
  -- behind what emitted no ending
  leaves_then : (c d : Context P) (x : TimerOutcome P) → Goes 0 c d → Leaves d x → Leaves c x
  leaves_then c d x g h = goes_then (once x.has_ended) c d x.context g h

  goes_t3_if : (b : Bool) (x : Ticking P) → Goes 0 x.context (t3_if b x).context
  goes_t3_if true x =
      goes_by 0 x.context (t3_if true x).context refl refl (emits_nack_all x.context.pack (most_bytes x.context) x.tcb.sender.outstanding.items x.context.emitted)
  goes_t3_if false x = goes_same x.context

  goes_beat_if : (b : Bool) (t : Tcb) (c : Context P) → Goes 0 c (send_heartbeat_if b t c)
  goes_beat_if true t c =
      let d : Context P = counted_on c in
      goes_then 0 c d (send_heartbeat_if true t c) (goes_silent c d refl refl refl) (goes_emit_chunk (heartbeat_chunk d.heartbeats.counter) t d)
  goes_beat_if false t c = goes_same c

  goes_unanswered_if : (b : Bool) (c : Context P) → Goes 0 c (heartbeat_timeout_if b c)
  goes_unanswered_if true c = goes_silent c (heartbeat_timeout_if true c) refl refl refl
  goes_unanswered_if false c = goes_same c

  goes_request_again : (b : Bool) (x : Ticking P) → Goes 0 x.context (request_again b x).context
  goes_request_again true x = goes_same x.context
  goes_request_again false x =
      let c : Context P = x.context in
      let t : Tcb = record x.tcb { requests = lasting (rto x.tcb.rtt) x.tcb.requests } in
      let p : PacketDraft = new_packet c.options t in
      goes_emit (add_request t.requests.current p) c (small_add_request (most_bytes c) p t.requests.current (small_new t c))

  goes_errs_if : (b : Bool) (c : Context P) → Goes 0 c (errs_if b c)
  goes_errs_if true c = goes_silent c (errs_if true c) refl refl refl
  goes_errs_if false c = goes_same c

  goes_reconfig_timeout : (x : Ticking P) → Goes 0 x.context (reconfig_timeout x).context
  goes_reconfig_timeout x =
      let is_error : Bool = is_unanswered x.tcb.requests.current in
      let d : Context P = errs_if is_error x.context in
      let y : Ticking P = record {
        tcb = record x.tcb { requests = clear_deferral (expire_reconfig_timer x.context.now x.tcb.requests) };
        context = d;
        has_expired = true;
      } in
      goes_then 0 x.context d (requests_again y).context (goes_errs_if is_error x.context) (goes_request_again (is_exhausted d.errors) y)

  goes_requests_if : (b : Bool) (x : Ticking P) → Goes 0 x.context (requests_if b x).context
  goes_requests_if true x = goes_reconfig_timeout x
  goes_requests_if false x = goes_same x.context

  goes_ticked : (t : Tcb) (c : Context P) → Goes 0 c (tick_timers t c).context
  unfolding tick_timers
  goes_ticked t c =
      let x : Ticking P = tick_ack (ticking t c) in
      let y : Ticking P = tick_t3 x in
      let z : Ticking P = tick_interval y in
      let w : Ticking P = tick_timeout z in
      goes_then 0 c y.context (tick_timers t c).context (goes_t3_if (is_due x.context.now x.tcb.sender.t3) x)
      (goes_then 0 y.context z.context (tick_timers t c).context (goes_beat_if (is_due y.context.now y.context.heartbeats.interval) y.tcb y.context)
      (goes_then 0 z.context w.context (tick_timers t c).context (goes_unanswered_if (is_due z.context.now z.context.heartbeats.timeout) z.context)
      (goes_requests_if (is_due w.context.now w.tcb.requests.timer) w)))

  steps_if : (b : Bool) (phase new : Phase) (t u : Tcb) (c d : Context P) → Goes (once b) c d → StepsFrom (Open phase t) c (closed_if b new u d)
  steps_if true phase new t u c d g = g
  steps_if false phase new t u c d g = g

  steps_left : (phase new : Phase) (t : Tcb) (c : Context P) (x : TimerOutcome P) → Leaves c x → StepsFrom (Open phase t) c (after_timers new x)
  steps_left phase new t c x g = steps_if x.has_ended phase new t x.tcb c x.context g

  leaves_ended_if : (b : Bool) (t : Tcb) (c : Context P) → Leaves c (abort_if b t c)
  leaves_ended_if true t c = goes_too_many t c
  leaves_ended_if false t c = goes_same c

  leaves_abort_if_exhausted : (t : Tcb) (c : Context P) → Leaves c (abort_if_exhausted t c)
  leaves_abort_if_exhausted t c = leaves_ended_if (is_exhausted c.errors) t c

  leaves_or_sent : (b : Bool) (t : Tcb) (c : Context P) → Leaves c (abort_or_send_if b t c)
  leaves_or_sent true t c = goes_too_many t c
  leaves_or_sent false t c = goes_send_buffered c false t

  leaves_on : (t : Tcb) (c : Context P) → Leaves c (abort_or_send t c)
  leaves_on t c = leaves_or_sent (is_exhausted c.errors) t c

  leaves_settled_if : (b : Bool) (t : Tcb) (c : Context P) → Leaves c (after_ticks_if b t c)
  leaves_settled_if true t c = leaves_on t c
  leaves_settled_if false t c = goes_same c

  leaves_settled : (c : Context P) (x : Ticking P) → Goes 0 c x.context → Leaves c (after_ticks x)
  leaves_settled c x g = leaves_then c x.context (after_ticks x) g (leaves_settled_if (x.has_expired || is_owed x.tcb x.context) x.tcb x.context)

  -- ---- T2-shutdown

  abbrev Again : (Tcb → Context P → Context P) → Type 0
  Again again = (t : Tcb) (c : Context P) → Goes 0 c (again t c)

  leaves_t2_expired : (b : Bool) (again : Tcb → Context P → Context P) → Again again → (t : Tcb) (c : Context P) → Leaves c (t2_expired b again t c)
  leaves_t2_expired true again h t c = leaves_then c (again t c) (abort_or_send t (again t c)) (h t c) (leaves_on t (again t c))
  leaves_t2_expired false again h t c = goes_too_many t c

  leaves_t2_if : (b : Bool) (now : ℕ) (again : Tcb → Context P → Context P) → Again again → (t2 : Timer) (c : Context P) (x : Ticking P) → Goes 0 c x.context
      → Leaves c (t2_if b now again t2 x)
  leaves_t2_if true now again h t2 c x g =
      let is_running_on : Bool = is_running (expire now t2) in
      leaves_then c x.context (t2_expired is_running_on again x.tcb x.context) g (leaves_t2_expired is_running_on again h x.tcb x.context)
  leaves_t2_if false now again h t2 c x g = leaves_settled c x g

  leaves_t2 : (again : Tcb → Context P → Context P) → Again again → (t2 : Timer) (t : Tcb) (c : Context P) → Leaves c (tick_t2 c.now again t2 (tick_timers t c))
  leaves_t2 again h t2 t c =
      let x : Ticking P = tick_timers t c in
      leaves_t2_if (is_due c.now t2) c.now again h t2 c x (goes_ticked t c)

  -- ---- T1-cookie

  leaves_waits_unless : (b : Bool) (t : Tcb) (c : Context P) → Leaves c (waits_unless b t c)
  leaves_waits_unless true t c = leaves_abort_if_exhausted t c
  leaves_waits_unless false t c = goes_same c

  leaves_t1_expired : (b : Bool) (cookie : List ℕ) (t : Tcb) (c : Context P) → Leaves c (t1_expired b cookie t c)
  leaves_t1_expired true cookie t c =
      let x : AfterSending P = send_cookie cookie t c in
      leaves_then c x.context (echoed_again x) (goes_send_cookie c cookie t) (leaves_abort_if_exhausted x.tcb x.context)
  leaves_t1_expired false cookie t c =
      goes_closed (OnAborted TooManyRetries (codes "No COOKIE_ACK received")) c tt refl

  goes_t3_with : (b : Bool) (x : Ticking P) → Goes 0 x.context (t3_with_cookie b x).context
  goes_t3_with true x = goes_t3_if (is_due x.context.now x.tcb.sender.t3) x
  goes_t3_with false x = goes_same x.context

  leaves_t1_if : (b : Bool) (t1 : Timer) (cookie : List ℕ) (x : Ticking P) → Leaves x.context (t1_if b t1 cookie x)
  leaves_t1_if true t1 cookie x =
      let y : Ticking P = t3_with_cookie x.context.options.avoid_stalls x in
      let is_on : Bool = is_running (expire x.context.now t1) in
      leaves_then x.context y.context (t1_expired is_on cookie y.tcb y.context) (goes_t3_with x.context.options.avoid_stalls x) (leaves_t1_expired is_on cookie y.tcb y.context)
  leaves_t1_if false t1 cookie x = leaves_waits_unless x.has_expired x.tcb x.context

  leaves_cookie : (t1 : Timer) (cookie : List ℕ) (t : Tcb) (c : Context P) → Leaves c (tick_cookie t1 cookie (tick_ack (ticking t c)))
  leaves_cookie t1 cookie t c = leaves_t1_if (is_due c.now t1) t1 cookie (tick_ack (ticking t c))

  -- ---- T1-init

  goes_init_expired : (b : Bool) (tag first : ℕ) (c : Context P) → Goes (once (init_expired b tag first c).has_ended) c (init_expired b tag first c).context
  goes_init_expired true tag first c = goes_send_init tag first c
  goes_init_expired false tag first c =
      goes_closed (OnAborted TooManyRetries (codes "No INIT_ACK received")) c tt refl

  goes_init_if : (b : Bool) (tag first : ℕ) (t1 : Timer) (c : Context P) → Goes (once (init_if b tag first t1 c).has_ended) c (init_if b tag first t1 c).context
  goes_init_if true tag first t1 c = goes_init_expired (is_running (expire c.now t1)) tag first c
  goes_init_if false tag first t1 c = goes_same c

  steps_waiting_unless : (b : Bool) (tag first : ℕ) (old new : Timer) (c d : Context P) → Goes (once b) c d
      → StepsFrom (CookieWait tag first old) c (waiting_unless b tag first new d)
  steps_waiting_unless true tag first old new c d g = g
  steps_waiting_unless false tag first old new c d g = g

  -- ---- by state

  steps_tick_open : (phase : Phase) (t : Tcb) (c : Context P) → StepsFrom (Open phase t) c (tick_open phase t c)
  steps_tick_open (CookieEchoed t1 cookie) t c =
      steps_left (CookieEchoed t1 cookie) (CookieEchoed (expire c.now t1) cookie) t c (tick_cookie t1 cookie (tick_ack (ticking t c))) (leaves_cookie t1 cookie t c)
  steps_tick_open Established t c = steps_left Established Established t c (after_ticks (tick_timers t c)) (leaves_settled c (tick_timers t c) (goes_ticked t c))
  steps_tick_open ShutdownPending t c = steps_left ShutdownPending ShutdownPending t c (after_ticks (tick_timers t c)) (leaves_settled c (tick_timers t c) (goes_ticked t c))
  steps_tick_open (ShutdownSent t2) t c =
      steps_left (ShutdownSent t2) (ShutdownSent (expire c.now t2)) t c (tick_t2 c.now send_shutdown t2 (tick_timers t c)) (leaves_t2 send_shutdown goes_send_shutdown t2 t c)
  steps_tick_open ShutdownReceived t c = steps_left ShutdownReceived ShutdownReceived t c (after_ticks (tick_timers t c)) (leaves_settled c (tick_timers t c) (goes_ticked t c))
  steps_tick_open (ShutdownAckSent t2) t c =
      steps_left (ShutdownAckSent t2) (ShutdownAckSent (expire c.now t2)) t c (tick_t2 c.now send_shutdown_ack t2 (tick_timers t c))
      (leaves_t2 send_shutdown_ack goes_send_shutdown_ack t2 t c)

  steps_tick : (st : State) (c : Context P) → StepsFrom st c (tick_in st c)
  steps_tick Closed c = goes_same c
  steps_tick (CookieWait tag first t1) c =
      let x : InitOutcome P = tick_init tag first t1 c in
      steps_waiting_unless x.has_ended tag first t1 (expire c.now t1) c x.context (goes_init_if (is_due c.now t1) tag first t1 c)
  steps_tick (Open phase t) c = steps_tick_open phase t c

  steps_advance_if : (is_back : Bool) (now : ℕ) (s : EndpointState P) → Steps s (advance_unless is_back now s)
  steps_advance_if true now s = steps_same s
  steps_advance_if false now s =
      let d : Context P = record s.context { now = now } in
      let x : EndpointState P = tick_in s.state d in
      goes_then (ends s.state x.state) s.context d x.context (goes_silent s.context d refl refl refl) (steps_tick s.state d)

  pub steps_advance : (now : ℕ) (s : EndpointState P) → Steps s (advance now s)
  steps_advance now s = steps_advance_if (nat_lt now s.context.now) now s
