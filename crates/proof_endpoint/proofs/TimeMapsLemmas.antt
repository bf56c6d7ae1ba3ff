-- The passing of time.
use Rattle.std.proofs.Common.{◌≡◌, ℕ, nat_lt, Bool, true, false, List, codes, refl, ap, ◌∙◌, ◌||◌}
use Rattle.sctp_state.specs.declared.api.ErrorKind.TheVariants.{TooManyRetries}
use Rattle.sctp_state.specs.TxErrorCounter.{is_exhausted}
use Rattle.sctp_state.specs.RetransmissionTimeout.{rto}
use Rattle.sctp_state.specs.Timer.{Timer, is_due, is_running, expire}
use Rattle.sctp_state.specs.Events.{Event, OnAborted}
use Rattle.sctp_tx_outstanding.specs.Losses.{Step}
use Rattle.spec_endpoint.specs.Association.{Tcb, Phase, CookieEchoed, Established, ShutdownPending, ShutdownSent, ShutdownReceived, ShutdownAckSent, State, Closed, CookieWait, Open, Context, EndpointState}
use Rattle.spec_endpoint.specs.Packets.{new_packet}
use Rattle.spec_endpoint.specs.ResetRequests.{lasting, expire_reconfig_timer, clear_deferral, is_unanswered}
use Rattle.spec_endpoint.specs.Sending.{AfterSending, add_request, send_cookie}
use Rattle.spec_endpoint.specs.Shutdown.{over, send_shutdown, send_shutdown_ack, too_many}
use Rattle.spec_endpoint.specs.Opening.{send_init}
use Rattle.spec_endpoint.specs.Heartbeats.{counted_on, heartbeat_chunk, send_heartbeat_if, heartbeat_timeout_if}
use Rattle.spec_endpoint.specs.Timers.{Ticking, tick_ack, timed_out, t3_if, tick_t3, tick_interval, tick_timeout, request_again, errs_if, requests_again, reconfig_timeout, requests_if, tick_requests, ticking, tick_timers, TimerOutcome, timer_outcome, closed_if, after_timers, abort_if, abort_if_exhausted, abort_or_send_if, abort_or_send, after_ticks_if, after_ticks, t2_expired, t2_if, tick_t2, waits_unless, echoed_again, t1_expired, t1_if, tick_cookie, InitOutcome, init_outcome, waiting_unless, after_init_timer, init_expired, init_if, tick_init, tick_open, tick_in, advance_unless, advance, is_owed, t3_with_cookie}
use Rattle.proof_endpoint.specs.Mapped.{Mapping, map_context, map_endpoint_state}
use Rattle.proof_endpoint.proofs.EmittedMapsLemmas.{maps_nack_all}
use Rattle.proof_endpoint.proofs.SendingMapsLemmas.{maps_emit, maps_emit_chunk, maps_send_buffered, maps_send_cookie}
use Rattle.proof_endpoint.proofs.RowMapsLemmas.{OpenMaps, maps_over, maps_too_many, maps_send_shutdown, maps_send_shutdown_ack}
use Rattle.proof_endpoint.proofs.OpeningMapsLemmas.{maps_send_init}

abbrev map_ticking : {P Q : Type 0} → Mapping P Q → Ticking P → Ticking Q
map_ticking f x = record { tcb = x.tcb; context = map_context f x.context; has_expired = x.has_expired }

abbrev pub ticking_as : {P : Type 0} → Tcb → Context P → Bool → Ticking P
ticking_as t c has_expired = record { tcb = t; context = c; has_expired = has_expired }

abbrev map_left : {P Q : Type 0} → Mapping P Q → TimerOutcome P → TimerOutcome Q
map_left f x = record { tcb = x.tcb; context = map_context f x.context; has_ended = x.has_ended }

abbrev map_waited : {P Q : Type 0} → Mapping P Q → InitOutcome P → InitOutcome Q
map_waited f x = record { context = map_context f x.context; has_ended = x.has_ended }

module _ {P Q : Type 0} (f : Mapping P Q) where
  maps_t3_if : (b : Bool) (x : Ticking P) → t3_if b (map_ticking f x) ≡ map_ticking f (t3_if b x)
  maps_t3_if true x =
      ap (λ (step : Step Q). timed_out step (map_ticking f x)) (maps_nack_all f x.tcb.sender.outstanding.items x.context.emitted)
  maps_t3_if false x = refl

  maps_beat_if : (b : Bool) (t : Tcb) (c : Context P) → send_heartbeat_if b t (map_context f c) ≡ map_context f (send_heartbeat_if b t c)
  maps_beat_if true t c =
      let d : Context P = counted_on c in
      maps_emit_chunk f (heartbeat_chunk d.heartbeats.counter) t d
  maps_beat_if false t c = refl

  maps_interval : (x : Ticking P) → tick_interval (map_ticking f x) ≡ map_ticking f (tick_interval x)
  maps_interval x =
      ap (λ (c : Context Q). ticking_as x.tcb c (tick_interval x).has_expired)
      (maps_beat_if (is_due x.context.now x.context.heartbeats.interval) x.tcb x.context)

  maps_unanswered_if : (b : Bool) (c : Context P) → heartbeat_timeout_if b (map_context f c) ≡ map_context f (heartbeat_timeout_if b c)
  maps_unanswered_if true c = refl
  maps_unanswered_if false c = refl

  maps_timeout : (x : Ticking P) → tick_timeout (map_ticking f x) ≡ map_ticking f (tick_timeout x)
  maps_timeout x =
      ap (λ (c : Context Q). ticking_as x.tcb c (tick_timeout x).has_expired)
      (maps_unanswered_if (is_due x.context.now x.context.heartbeats.timeout) x.context)

  maps_request_again : (b : Bool) (x : Ticking P) → request_again b (map_ticking f x) ≡ map_ticking f (request_again b x)
  maps_request_again true x = refl
  maps_request_again false x =
      let t : Tcb = record x.tcb { requests = lasting (rto x.tcb.rtt) x.tcb.requests } in
      ap (λ (d : Context Q). ticking_as t d x.has_expired) (maps_emit f (add_request t.requests.current (new_packet x.context.options t)) x.context)

  maps_errs_if : (b : Bool) (c : Context P) → errs_if b (map_context f c) ≡ map_context f (errs_if b c)
  maps_errs_if true c = refl
  maps_errs_if false c = refl

  maps_reconfig_timeout : (x : Ticking P) → reconfig_timeout (map_ticking f x) ≡ map_ticking f (reconfig_timeout x)
  maps_reconfig_timeout x =
      let is_error : Bool = is_unanswered x.tcb.requests.current in
      let t : Tcb = record x.tcb { requests = clear_deferral (expire_reconfig_timer x.context.now x.tcb.requests) } in
      let y : Ticking P = ticking_as t (errs_if is_error x.context) true in
      ap (λ (d : Context Q). requests_again (ticking_as t d true)) (maps_errs_if is_error x.context) ∙ maps_request_again (is_exhausted y.context.errors) y

  maps_requests_if : (b : Bool) (x : Ticking P) → requests_if b (map_ticking f x) ≡ map_ticking f (requests_if b x)
  maps_requests_if true x = maps_reconfig_timeout x
  maps_requests_if false x = refl

  maps_ticked : (t : Tcb) (c : Context P) → tick_timers t (map_context f c) ≡ map_ticking f (tick_timers t c)
  unfolding tick_timers
  maps_ticked t c =
      let x : Ticking P = tick_ack (ticking t c) in
      let y : Ticking P = tick_t3 x in
      let z : Ticking P = tick_interval y in
      let w : Ticking P = tick_timeout z in
      ap (λ (v : Ticking Q). tick_requests (tick_timeout (tick_interval v))) (maps_t3_if (is_due x.context.now x.tcb.sender.t3) x)
      ∙ (ap (λ (v : Ticking Q). tick_requests (tick_timeout v)) (maps_interval y)
      ∙ (ap (λ (v : Ticking Q). tick_requests v) (maps_timeout z) ∙ maps_requests_if (is_due w.context.now w.tcb.requests.timer) w))

  maps_left : (t : Tcb) (has_ended : Bool) (c : Context P) (d : Context Q) → d ≡ map_context f c → timer_outcome t d has_ended ≡ map_left f (timer_outcome t c has_ended)
  maps_left t has_ended c d h = ap (λ (e : Context Q). timer_outcome t e has_ended) h

  maps_endpoint_state_if : (b : Bool) (phase : Phase) (t : Tcb) (c : Context P) → closed_if b phase t (map_context f c) ≡ map_endpoint_state f (closed_if b phase t c)
  maps_endpoint_state_if true phase t c = refl
  maps_endpoint_state_if false phase t c = refl

  maps_endpoint_state_left : (phase : Phase) (x : TimerOutcome P) (y : TimerOutcome Q) → y ≡ map_left f x → after_timers phase y ≡ map_endpoint_state f (after_timers phase x)
  maps_endpoint_state_left phase x y h = ap (λ (z : TimerOutcome Q). after_timers phase z) h ∙ maps_endpoint_state_if x.has_ended phase x.tcb x.context

  -- too many errors
  maps_given_up : (t : Tcb) (c : Context P) → timer_outcome t (too_many t (map_context f c)).context true ≡ map_left f (timer_outcome t (too_many t c).context true)
  maps_given_up t c =
      maps_left t true (too_many t c).context (too_many t (map_context f c)).context (ap (λ (s : EndpointState Q). s.context) (maps_too_many f t c))

  maps_ended_if : (b : Bool) (t : Tcb) (c : Context P) → abort_if b t (map_context f c) ≡ map_left f (abort_if b t c)
  maps_ended_if true t c = maps_given_up t c
  maps_ended_if false t c = refl

  maps_abort_if_exhausted : (t : Tcb) (c : Context P) → abort_if_exhausted t (map_context f c) ≡ map_left f (abort_if_exhausted t c)
  maps_abort_if_exhausted t c = maps_ended_if (is_exhausted c.errors) t c

  maps_or_sent : (b : Bool) (t : Tcb) (c : Context P) → abort_or_send_if b t (map_context f c) ≡ map_left f (abort_or_send_if b t c)
  maps_or_sent true t c = maps_given_up t c
  maps_or_sent false t c = ap (λ (x : AfterSending Q). timer_outcome x.tcb x.context false) (maps_send_buffered f false t c)

  maps_on : (t : Tcb) (c : Context P) → abort_or_send t (map_context f c) ≡ map_left f (abort_or_send t c)
  maps_on t c = maps_or_sent (is_exhausted c.errors) t c

  maps_settled_if : (b : Bool) (t : Tcb) (c : Context P) → after_ticks_if b t (map_context f c) ≡ map_left f (after_ticks_if b t c)
  maps_settled_if true t c = maps_on t c
  maps_settled_if false t c = refl

  maps_settled : (x : Ticking P) → after_ticks (map_ticking f x) ≡ map_left f (after_ticks x)
  maps_settled x = maps_settled_if (x.has_expired || is_owed x.tcb x.context) x.tcb x.context

  -- ---- T2-shutdown

  abbrev Again : (Tcb → Context P → Context P) → (Tcb → Context Q → Context Q) → Type 0
  Again again mapped = (t : Tcb) (c : Context P) → mapped t (map_context f c) ≡ map_context f (again t c)

  maps_t2_expired : (b : Bool) (again : Tcb → Context P → Context P) (mapped : Tcb → Context Q → Context Q) → Again again mapped → (t : Tcb) (c : Context P)
      → t2_expired b mapped t (map_context f c) ≡ map_left f (t2_expired b again t c)
  maps_t2_expired true again mapped h t c = ap (λ (d : Context Q). abort_or_send t d) (h t c) ∙ maps_on t (again t c)
  maps_t2_expired false again mapped h t c = maps_given_up t c

  maps_t2_if : (b : Bool) (now : ℕ) (again : Tcb → Context P → Context P) (mapped : Tcb → Context Q → Context Q) → Again again mapped → (t2 : Timer) (x : Ticking P)
      → t2_if b now mapped t2 (map_ticking f x) ≡ map_left f (t2_if b now again t2 x)
  maps_t2_if true now again mapped h t2 x = maps_t2_expired (is_running (expire now t2)) again mapped h x.tcb x.context
  maps_t2_if false now again mapped h t2 x = maps_settled x

  maps_t2 : (again : Tcb → Context P → Context P) (mapped : Tcb → Context Q → Context Q) → Again again mapped → (t2 : Timer) (t : Tcb) (c : Context P)
      → tick_t2 c.now mapped t2 (tick_timers t (map_context f c)) ≡ map_left f (tick_t2 c.now again t2 (tick_timers t c))
  maps_t2 again mapped h t2 t c =
      let x : Ticking P = tick_timers t c in
      ap (λ (y : Ticking Q). tick_t2 c.now mapped t2 y) (maps_ticked t c) ∙ maps_t2_if (is_due c.now t2) c.now again mapped h t2 x

  -- ---- T1-cookie

  maps_waits_unless : (b : Bool) (t : Tcb) (c : Context P) → waits_unless b t (map_context f c) ≡ map_left f (waits_unless b t c)
  maps_waits_unless true t c = maps_abort_if_exhausted t c
  maps_waits_unless false t c = refl

  maps_t1_expired : (b : Bool) (cookie : List ℕ) (t : Tcb) (c : Context P) → t1_expired b cookie t (map_context f c) ≡ map_left f (t1_expired b cookie t c)
  maps_t1_expired true cookie t c =
      let x : AfterSending P = send_cookie cookie t c in
      ap (λ (y : AfterSending Q). echoed_again y) (maps_send_cookie f cookie t c) ∙ maps_abort_if_exhausted x.tcb x.context
  maps_t1_expired false cookie t c =
      let e : Event P = OnAborted TooManyRetries (codes "No COOKIE_ACK received") in
      maps_left t true (over e c) _ (maps_over f e c)

  maps_t3_with : (b : Bool) (x : Ticking P) → t3_with_cookie b (map_ticking f x) ≡ map_ticking f (t3_with_cookie b x)
  maps_t3_with true x = maps_t3_if (is_due x.context.now x.tcb.sender.t3) x
  maps_t3_with false x = refl

  maps_t1_if : (b : Bool) (t1 : Timer) (cookie : List ℕ) (x : Ticking P) → t1_if b t1 cookie (map_ticking f x) ≡ map_left f (t1_if b t1 cookie x)
  maps_t1_if true t1 cookie x =
      let y : Ticking P = t3_with_cookie x.context.options.avoid_stalls x in
      let is_on : Bool = is_running (expire x.context.now t1) in
      ap (λ (z : Ticking Q). t1_expired is_on cookie z.tcb z.context) (maps_t3_with x.context.options.avoid_stalls x) ∙ maps_t1_expired is_on cookie y.tcb y.context
  maps_t1_if false t1 cookie x = maps_waits_unless x.has_expired x.tcb x.context

  maps_cookie : (t1 : Timer) (cookie : List ℕ) (t : Tcb) (c : Context P)
      → tick_cookie t1 cookie (tick_ack (ticking t (map_context f c))) ≡ map_left f (tick_cookie t1 cookie (tick_ack (ticking t c)))
  maps_cookie t1 cookie t c = maps_t1_if (is_due c.now t1) t1 cookie (tick_ack (ticking t c))

  -- ---- T1-init

  maps_waited : (has_ended : Bool) (c : Context P) (d : Context Q) → d ≡ map_context f c → init_outcome d has_ended ≡ map_waited f (init_outcome c has_ended)
  maps_waited has_ended c d h = ap (λ (e : Context Q). init_outcome e has_ended) h

  maps_init_expired : (b : Bool) (tag first : ℕ) (c : Context P) → init_expired b tag first (map_context f c) ≡ map_waited f (init_expired b tag first c)
  maps_init_expired true tag first c = maps_waited false (send_init tag first c) (send_init tag first (map_context f c)) (maps_send_init f tag first c)
  maps_init_expired false tag first c =
      let e : Event P = OnAborted TooManyRetries (codes "No INIT_ACK received") in
      maps_waited true (over e c) _ (maps_over f e c)

  maps_init_if : (b : Bool) (tag first : ℕ) (t1 : Timer) (c : Context P) → init_if b tag first t1 (map_context f c) ≡ map_waited f (init_if b tag first t1 c)
  maps_init_if true tag first t1 c = maps_init_expired (is_running (expire c.now t1)) tag first c
  maps_init_if false tag first t1 c = refl

  maps_waiting_unless : (b : Bool) (tag first : ℕ) (t1 : Timer) (c : Context P) → waiting_unless b tag first t1 (map_context f c) ≡ map_endpoint_state f (waiting_unless b tag first t1 c)
  maps_waiting_unless true tag first t1 c = refl
  maps_waiting_unless false tag first t1 c = refl

  -- ---- by state

  maps_settled_in : (phase : Phase) (t : Tcb) (c : Context P)
      → after_timers phase (after_ticks (tick_timers t (map_context f c))) ≡ map_endpoint_state f (after_timers phase (after_ticks (tick_timers t c)))
  maps_settled_in phase t c =
      maps_endpoint_state_left phase (after_ticks (tick_timers t c)) (after_ticks (tick_timers t (map_context f c)))
      (ap (λ (x : Ticking Q). after_ticks x) (maps_ticked t c) ∙ maps_settled (tick_timers t c))

  maps_tick_open : OpenMaps f tick_open tick_open
  maps_tick_open (CookieEchoed t1 cookie) t c =
      maps_endpoint_state_left (CookieEchoed (expire c.now t1) cookie) (tick_cookie t1 cookie (tick_ack (ticking t c))) _ (maps_cookie t1 cookie t c)
  maps_tick_open Established t c = maps_settled_in Established t c
  maps_tick_open ShutdownPending t c = maps_settled_in ShutdownPending t c
  maps_tick_open (ShutdownSent t2) t c =
      maps_endpoint_state_left (ShutdownSent (expire c.now t2)) (tick_t2 c.now send_shutdown t2 (tick_timers t c)) _
      (maps_t2 send_shutdown send_shutdown (maps_send_shutdown f) t2 t c)
  maps_tick_open ShutdownReceived t c = maps_settled_in ShutdownReceived t c
  maps_tick_open (ShutdownAckSent t2) t c =
      maps_endpoint_state_left (ShutdownAckSent (expire c.now t2)) (tick_t2 c.now send_shutdown_ack t2 (tick_timers t c)) _
      (maps_t2 send_shutdown_ack send_shutdown_ack (maps_send_shutdown_ack f) t2 t c)

  maps_tick : (st : State) (c : Context P) → tick_in st (map_context f c) ≡ map_endpoint_state f (tick_in st c)
  maps_tick Closed c = refl
  maps_tick (CookieWait tag first t1) c =
      let x : InitOutcome P = tick_init tag first t1 c in
      ap (λ (y : InitOutcome Q). after_init_timer tag first (expire c.now t1) y) (maps_init_if (is_due c.now t1) tag first t1 c)
      ∙ maps_waiting_unless x.has_ended tag first (expire c.now t1) x.context
  maps_tick (Open phase t) c = maps_tick_open phase t c

  maps_advance_if : (b : Bool) (now : ℕ) (s : EndpointState P) → advance_unless b now (map_endpoint_state f s) ≡ map_endpoint_state f (advance_unless b now s)
  maps_advance_if true now s = refl
  maps_advance_if false now s = maps_tick s.state (record s.context { now = now })

  pub maps_advance : (now : ℕ) (s : EndpointState P) → advance now (map_endpoint_state f s) ≡ map_endpoint_state f (advance now s)
  maps_advance now s = maps_advance_if (nat_lt now s.context.now) now s
