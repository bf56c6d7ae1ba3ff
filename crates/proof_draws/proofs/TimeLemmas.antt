-- The passing of time, under other names.
use Rattle.std.proofs.Common.{◌≡◌, ℕ, nat_lt, Bool, true, false, Option, Some, None, option_map, List, refl, ap, ◌∙◌, ◌||◌}
use Rattle.sctp_packet.specs.Chunk.{shutdown_chunk, shutdown_ack_chunk, cookie_echo_chunk}
use Rattle.sctp_rx.specs.DataTracker.{wire_tsn}
use Rattle.sctp_state.specs.TxErrorCounter.{is_exhausted}
use Rattle.sctp_state.specs.RetransmissionTimeout.{rto}
use Rattle.sctp_state.specs.Timer.{Timer, is_due, is_running, expire}
use Rattle.spec_endpoint.specs.Association.{Tcb, Phase, CookieEchoed, Established, ShutdownPending, ShutdownSent, ShutdownReceived, ShutdownAckSent, State, Closed, CookieWait, Open, Context, EndpointState, Packing}
use Rattle.spec_endpoint.specs.Packets.{PacketDraft, fits, add, packet_to, new_packet, emit}
use Rattle.spec_endpoint.specs.ResetRequests.{Request, Requests, lasting, expire_reconfig_timer, clear_deferral, without_deferral, is_unanswered}
use Rattle.spec_endpoint.specs.Sending.{AfterSending, add_request, cookie_if, send_cookie}
use Rattle.spec_endpoint.specs.Shutdown.{send_shutdown, send_shutdown_ack, too_many}
use Rattle.spec_endpoint.specs.Heartbeats.{counted_on, heartbeat_chunk, send_heartbeat_if, heartbeat_timeout_if}
use Rattle.spec_endpoint.specs.Timers.{Ticking, tick_ack, t3_if, tick_t3, tick_interval, tick_timeout, request_again, errs_if, requests_again, reconfig_timeout, requests_if, tick_requests, ticking, tick_timers, TimerOutcome, timer_outcome, closed_if, after_timers, abort_if, abort_if_exhausted, abort_or_send_if, abort_or_send, after_ticks_if, after_ticks, t2_expired, t2_if, tick_t2, waits_unless, echoed_again, t1_expired, t1_if, tick_cookie, InitOutcome, init_outcome, waiting_unless, after_init_timer, init_expired, init_if, tick_init, tick_open, tick_in, advance_unless, advance, is_owed, t3_with_cookie}
use Rattle.proof_draws.specs.NamedChunks.{Names, AreNames, move_by}
use Rattle.proof_draws.specs.Names.{named_request, named_requests, named_phase, named_tcb, named_state, named_endpoint_state, plain}
use Rattle.proof_draws.proofs.WritingLemmas.{Knows, named_emit, named_emit_chunk, emit_stays}
use Rattle.proof_draws.proofs.OpeningLemmas.{named_send_init}
use Rattle.proof_draws.proofs.FillingLemmas.{add_request_named, send_buffered_named, send_with_stays, with_requests}
use Rattle.proof_draws.proofs.SackLemmas.{send_shutdown_named}
use Rattle.proof_draws.proofs.AnswerLemmas.{send_cookie_named}
use Rattle.proof_draws.proofs.ClosingLemmas.{acked_named, too_many_named}
use Rattle.proof_endpoint.proofs.TimeMapsLemmas.{ticking_as}

abbrev named_ticking : {P : Type 0} → Names → Packing P → Ticking P → Ticking P
named_ticking n pack x = record { tcb = named_tcb n x.tcb; context = plain n pack x.context; has_expired = x.has_expired }

abbrev named_left : {P : Type 0} → Names → Packing P → TimerOutcome P → TimerOutcome P
named_left n pack x = record { tcb = named_tcb n x.tcb; context = plain n pack x.context; has_ended = x.has_ended }

abbrev plain_waited : {P : Type 0} → Names → Packing P → InitOutcome P → InitOutcome P
plain_waited n pack x = record { context = plain n pack x.context; has_ended = x.has_ended }

-- ---- who writes stays

module _ {P : Type 0} where
  shutdown_stays : (t : Tcb) (c : Context P) → (send_shutdown t c).pack ≡ c.pack
  shutdown_stays t c = emit_stays (add (shutdown_chunk (wire_tsn t.tracker t.tracker.tracker.seen.front)) (new_packet c.options t)) c

  shutdown_ack_stays : (t : Tcb) (c : Context P) → (send_shutdown_ack t c).pack ≡ c.pack
  shutdown_ack_stays t c = emit_stays (add shutdown_ack_chunk (new_packet c.options t)) c

  cookie_if_stays : (b : Bool) (cookie : List ℕ) (t : Tcb) (c : Context P) → (cookie_if b cookie t c).context.pack ≡ c.pack
  cookie_if_stays true cookie t c = send_with_stays true (add (cookie_echo_chunk cookie) (packet_to t.identity.peer_tag c.options.mtu)) t c
  cookie_if_stays false cookie t c = refl

  send_cookie_stays : (cookie : List ℕ) (t : Tcb) (c : Context P) → (send_cookie cookie t c).context.pack ≡ c.pack
  send_cookie_stays cookie t c = cookie_if_stays (fits (packet_to t.identity.peer_tag c.options.mtu) (cookie_echo_chunk cookie)) cookie t c

  t3_stays : (b : Bool) (x : Ticking P) → (t3_if b x).context.pack ≡ x.context.pack
  t3_stays true x = refl
  t3_stays false x = refl

  t3_with_stays : (b : Bool) (x : Ticking P) → (t3_with_cookie b x).context.pack ≡ x.context.pack
  t3_with_stays true x = t3_stays (is_due x.context.now x.tcb.sender.t3) x
  t3_with_stays false x = refl

  beat_stays : (b : Bool) (t : Tcb) (c : Context P) → (send_heartbeat_if b t c).pack ≡ c.pack
  beat_stays true t c = emit_stays (add (heartbeat_chunk (counted_on c).heartbeats.counter) (new_packet c.options t)) (counted_on c)
  beat_stays false t c = refl

  unanswered_stays : (b : Bool) (c : Context P) → (heartbeat_timeout_if b c).pack ≡ c.pack
  unanswered_stays true c = refl
  unanswered_stays false c = refl

  errs_stays : (b : Bool) (c : Context P) → (errs_if b c).pack ≡ c.pack
  errs_stays true c = refl
  errs_stays false c = refl

  again_stays : (b : Bool) (x : Ticking P) → (request_again b x).context.pack ≡ x.context.pack
  again_stays true x = refl
  again_stays false x =
      emit_stays (add_request (lasting (rto x.tcb.rtt) x.tcb.requests).current (new_packet x.context.options x.tcb)) x.context

  requests_stay : (b : Bool) (x : Ticking P) → (requests_if b x).context.pack ≡ x.context.pack
  requests_stay true x =
      let c : Context P = errs_if (is_unanswered x.tcb.requests.current) x.context in
      let t : Tcb = record x.tcb { requests = clear_deferral (expire_reconfig_timer x.context.now x.tcb.requests) } in
      again_stays (is_exhausted c.errors) (ticking_as t c true) ∙ errs_stays (is_unanswered x.tcb.requests.current) x.context
  requests_stay false x = refl

  ticked_stays : (t : Tcb) (c : Context P) → (tick_timers t c).context.pack ≡ c.pack
  unfolding tick_timers
  ticked_stays t c =
      let x : Ticking P = tick_ack (ticking t c) in
      let y : Ticking P = tick_t3 x in
      let z : Ticking P = tick_interval y in
      let w : Ticking P = tick_timeout z in
      requests_stay (is_due w.context.now w.tcb.requests.timer) w
      ∙ (unanswered_stays (is_due z.context.now z.context.heartbeats.timeout) z.context
      ∙ (beat_stays (is_due y.context.now y.context.heartbeats.interval) y.tcb y.context ∙ t3_stays (is_due x.context.now x.tcb.sender.t3) x))

module _ {P : Type 0} (n : Names) (are : AreNames n) (pack : Packing P) where
  t3_named : (b : Bool) (x : Ticking P) → t3_if b (named_ticking n pack x) ≡ named_ticking n pack (t3_if b x)
  t3_named true x = refl
  t3_named false x = refl

  beat_named : (b : Bool) (t : Tcb) (c : Context P) → Knows n pack c → send_heartbeat_if b (named_tcb n t) (plain n pack c) ≡ plain n pack (send_heartbeat_if b t c)
  beat_named true t c k = let d : Context P = counted_on c in named_emit_chunk n are pack (heartbeat_chunk d.heartbeats.counter) t d k
  beat_named false t c k = refl

  interval_named : (x : Ticking P) → Knows n pack x.context → tick_interval (named_ticking n pack x) ≡ named_ticking n pack (tick_interval x)
  interval_named x k =
      ap (λ (c : Context P). ticking_as (named_tcb n x.tcb) c (tick_interval x).has_expired)
      (beat_named (is_due x.context.now x.context.heartbeats.interval) x.tcb x.context k)

  unanswered_if_named : (b : Bool) (c : Context P) → heartbeat_timeout_if b (plain n pack c) ≡ plain n pack (heartbeat_timeout_if b c)
  unanswered_if_named true c = refl
  unanswered_if_named false c = refl

  timeout_named : (x : Ticking P) → tick_timeout (named_ticking n pack x) ≡ named_ticking n pack (tick_timeout x)
  timeout_named x =
      ap (λ (c : Context P). ticking_as (named_tcb n x.tcb) c (tick_timeout x).has_expired)
      (unanswered_if_named (is_due x.context.now x.context.heartbeats.timeout) x.context)

  again_named : (b : Bool) (x : Ticking P) → Knows n pack x.context → request_again b (named_ticking n pack x) ≡ named_ticking n pack (request_again b x)
  again_named true x k = refl
  again_named false x k =
      let t : Tcb = record x.tcb { requests = lasting (rto x.tcb.rtt) x.tcb.requests } in
      let p : PacketDraft = new_packet x.context.options t in
      ap (λ (q : PacketDraft). ticking_as (named_tcb n t) (emit q (plain n pack x.context)) x.has_expired) (add_request_named n are pack t.requests.current p)
      ∙ ap (λ (d : Context P). ticking_as (named_tcb n t) d x.has_expired) (named_emit n are pack (add_request t.requests.current p) x.context k)

  errs_named : (b : Bool) (c : Context P) → errs_if b (plain n pack c) ≡ plain n pack (errs_if b c)
  errs_named true c = refl
  errs_named false c = refl

  waits_named : (o : Option Request) → is_unanswered (option_map (named_request n) o) ≡ is_unanswered o
  waits_named None = refl
  waits_named (Some r) = refl

  in_order : (o : Option Request) → option_map without_deferral (option_map (named_request n) o) ≡ option_map (named_request n) (option_map without_deferral o)
  in_order None = refl
  in_order (Some r) = refl

  woken_named : (r : Requests) → clear_deferral (named_requests n r) ≡ named_requests n (clear_deferral r)
  woken_named r = ap (λ (o : Option Request). record (named_requests n r) { current = o }) (in_order r.current)

  reconfig_timeout_named : (x : Ticking P) → Knows n pack x.context → reconfig_timeout (named_ticking n pack x) ≡ named_ticking n pack (reconfig_timeout x)
  reconfig_timeout_named x k =
      let is_error : Bool = is_unanswered x.tcb.requests.current in
      let r : Requests = expire_reconfig_timer x.context.now x.tcb.requests in
      let t : Tcb = record x.tcb { requests = clear_deferral r } in
      let c : Context P = plain n pack x.context in
      let y : Ticking P = ticking_as t (errs_if is_error x.context) true in
      ap (λ (s : Requests). requests_again (ticking_as (with_requests (named_tcb n t) s) (errs_if (is_unanswered (option_map (named_request n) x.tcb.requests.current)) c) true)) (woken_named r)
      ∙ (ap (λ (b : Bool). requests_again (ticking_as (named_tcb n t) (errs_if b c) true)) (waits_named x.tcb.requests.current)
      ∙ (ap (λ (d : Context P). requests_again (ticking_as (named_tcb n t) d true)) (errs_named is_error x.context)
      ∙ again_named (is_exhausted y.context.errors) y (errs_stays is_error x.context ∙ k)))

  requests_if_named : (b : Bool) (x : Ticking P) → Knows n pack x.context → requests_if b (named_ticking n pack x) ≡ named_ticking n pack (requests_if b x)
  requests_if_named true x k = reconfig_timeout_named x k
  requests_if_named false x k = refl

  ticked_named : (t : Tcb) (c : Context P) → Knows n pack c → tick_timers (named_tcb n t) (plain n pack c) ≡ named_ticking n pack (tick_timers t c)
  unfolding tick_timers
  ticked_named t c k =
      let x : Ticking P = tick_ack (ticking t c) in
      let y : Ticking P = tick_t3 x in
      let z : Ticking P = tick_interval y in
      let w : Ticking P = tick_timeout z in
      let at_y : Knows n pack y.context = t3_stays (is_due x.context.now x.tcb.sender.t3) x ∙ k in
      let at_z : Knows n pack z.context = beat_stays (is_due y.context.now y.context.heartbeats.interval) y.tcb y.context ∙ at_y in
      let at_w : Knows n pack w.context = unanswered_stays (is_due z.context.now z.context.heartbeats.timeout) z.context ∙ at_z in
      ap (λ (v : Ticking P). tick_requests (tick_timeout (tick_interval v))) (t3_named (is_due x.context.now x.tcb.sender.t3) x)
      ∙ (ap (λ (v : Ticking P). tick_requests (tick_timeout v)) (interval_named y at_y)
      ∙ (ap (λ (v : Ticking P). tick_requests v) (timeout_named z) ∙ requests_if_named (is_due w.context.now w.tcb.requests.timer) w at_w))

  -- ---- what an expiry leads to

  endpoint_state_if_named : (b : Bool) (phase : Phase) (t : Tcb) (c : Context P) → closed_if b (named_phase n phase) (named_tcb n t) (plain n pack c) ≡ named_endpoint_state n pack (closed_if b phase t c)
  endpoint_state_if_named true phase t c = refl
  endpoint_state_if_named false phase t c = refl

  endpoint_state_left_named : (phase : Phase) (x y : TimerOutcome P) → y ≡ named_left n pack x → after_timers (named_phase n phase) y ≡ named_endpoint_state n pack (after_timers phase x)
  endpoint_state_left_named phase x y h = ap (λ (z : TimerOutcome P). after_timers (named_phase n phase) z) h ∙ endpoint_state_if_named x.has_ended phase x.tcb x.context

  given_up_named : (t : Tcb) (c : Context P) → Knows n pack c → timer_outcome (named_tcb n t) (too_many (named_tcb n t) (plain n pack c)).context true ≡ named_left n pack (timer_outcome t (too_many t c).context true)
  given_up_named t c k = ap (λ (s : EndpointState P). timer_outcome (named_tcb n t) s.context true) (too_many_named n are pack t c k)

  ended_if_named : (b : Bool) (t : Tcb) (c : Context P) → Knows n pack c → abort_if b (named_tcb n t) (plain n pack c) ≡ named_left n pack (abort_if b t c)
  ended_if_named true t c k = given_up_named t c k
  ended_if_named false t c k = refl

  abort_if_exhausted_named : (t : Tcb) (c : Context P) → Knows n pack c → abort_if_exhausted (named_tcb n t) (plain n pack c) ≡ named_left n pack (abort_if_exhausted t c)
  abort_if_exhausted_named t c k = ended_if_named (is_exhausted c.errors) t c k

  or_sent_named : (b : Bool) (t : Tcb) (c : Context P) → Knows n pack c → abort_or_send_if b (named_tcb n t) (plain n pack c) ≡ named_left n pack (abort_or_send_if b t c)
  or_sent_named true t c k = given_up_named t c k
  or_sent_named false t c k = ap (λ (x : AfterSending P). timer_outcome x.tcb x.context false) (send_buffered_named n are pack false t c k)

  on_named : (t : Tcb) (c : Context P) → Knows n pack c → abort_or_send (named_tcb n t) (plain n pack c) ≡ named_left n pack (abort_or_send t c)
  on_named t c k = or_sent_named (is_exhausted c.errors) t c k

  settled_if_named : (b : Bool) (t : Tcb) (c : Context P) → Knows n pack c → after_ticks_if b (named_tcb n t) (plain n pack c) ≡ named_left n pack (after_ticks_if b t c)
  settled_if_named true t c k = on_named t c k
  settled_if_named false t c k = refl

  settled_named : (x : Ticking P) → Knows n pack x.context → after_ticks (named_ticking n pack x) ≡ named_left n pack (after_ticks x)
  settled_named x k = settled_if_named (x.has_expired || is_owed x.tcb x.context) x.tcb x.context k

  -- ---- T2-shutdown

  abbrev Again : (Tcb → Context P → Context P) → Type 0
  Again again =
      (t : Tcb) (c : Context P) → Knows n pack c → (again (named_tcb n t) (plain n pack c) ≡ plain n pack (again t c)) × ((again t c).pack ≡ c.pack)

  t2_expired_named : (b : Bool) (again : Tcb → Context P → Context P) → Again again → (t : Tcb) (c : Context P) → Knows n pack c
      → t2_expired b again (named_tcb n t) (plain n pack c) ≡ named_left n pack (t2_expired b again t c)
  t2_expired_named true again h t c k = ap (λ (d : Context P). abort_or_send (named_tcb n t) d) (h t c k).0 ∙ on_named t (again t c) ((h t c k).1 ∙ k)
  t2_expired_named false again h t c k = given_up_named t c k

  t2_if_named : (b : Bool) (now : ℕ) (again : Tcb → Context P → Context P) → Again again → (t2 : Timer) (x : Ticking P) → Knows n pack x.context
      → t2_if b now again t2 (named_ticking n pack x) ≡ named_left n pack (t2_if b now again t2 x)
  t2_if_named true now again h t2 x k = t2_expired_named (is_running (expire now t2)) again h x.tcb x.context k
  t2_if_named false now again h t2 x k = settled_named x k

  t2_named : (again : Tcb → Context P → Context P) → Again again → (t2 : Timer) (t : Tcb) (c : Context P) → Knows n pack c
      → tick_t2 c.now again t2 (tick_timers (named_tcb n t) (plain n pack c)) ≡ named_left n pack (tick_t2 c.now again t2 (tick_timers t c))
  t2_named again h t2 t c k =
      let x : Ticking P = tick_timers t c in
      ap (λ (y : Ticking P). tick_t2 c.now again t2 y) (ticked_named t c k) ∙ t2_if_named (is_due c.now t2) c.now again h t2 x (ticked_stays t c ∙ k)

  -- ---- T1-cookie

  waits_unless_named : (b : Bool) (t : Tcb) (c : Context P) → Knows n pack c → waits_unless b (named_tcb n t) (plain n pack c) ≡ named_left n pack (waits_unless b t c)
  waits_unless_named true t c k = abort_if_exhausted_named t c k
  waits_unless_named false t c k = refl

  t1_expired_named : (b : Bool) (cookie : List ℕ) (t : Tcb) (c : Context P) → Knows n pack c
      → t1_expired b (n.cookie cookie) (named_tcb n t) (plain n pack c) ≡ named_left n pack (t1_expired b cookie t c)
  t1_expired_named true cookie t c k =
      let x : AfterSending P = send_cookie cookie t c in
      ap (λ (y : AfterSending P). echoed_again y) (send_cookie_named n are pack cookie t c k) ∙ abort_if_exhausted_named x.tcb x.context (send_cookie_stays cookie t c ∙ k)
  t1_expired_named false cookie t c k = refl

  t3_with_named : (b : Bool) (x : Ticking P) → t3_with_cookie b (named_ticking n pack x) ≡ named_ticking n pack (t3_with_cookie b x)
  t3_with_named true x = t3_named (is_due x.context.now x.tcb.sender.t3) x
  t3_with_named false x = refl

  t1_if_named : (b : Bool) (t1 : Timer) (cookie : List ℕ) (x : Ticking P) → Knows n pack x.context
      → t1_if b t1 (n.cookie cookie) (named_ticking n pack x) ≡ named_left n pack (t1_if b t1 cookie x)
  t1_if_named true t1 cookie x k =
      let y : Ticking P = t3_with_cookie x.context.options.avoid_stalls x in
      let is_on : Bool = is_running (expire x.context.now t1) in
      ap (λ (z : Ticking P). t1_expired is_on (n.cookie cookie) z.tcb z.context) (t3_with_named x.context.options.avoid_stalls x)
      ∙ t1_expired_named is_on cookie y.tcb y.context (t3_with_stays x.context.options.avoid_stalls x ∙ k)
  t1_if_named false t1 cookie x k = waits_unless_named x.has_expired x.tcb x.context k

  cookie_named : (t1 : Timer) (cookie : List ℕ) (t : Tcb) (c : Context P) → Knows n pack c
      → tick_cookie t1 (n.cookie cookie) (tick_ack (ticking (named_tcb n t) (plain n pack c))) ≡ named_left n pack (tick_cookie t1 cookie (tick_ack (ticking t c)))
  cookie_named t1 cookie t c k = t1_if_named (is_due c.now t1) t1 cookie (tick_ack (ticking t c)) k

  -- ---- T1-init

  init_expired_named : (b : Bool) (tag first : ℕ) (c : Context P) → Knows n pack c
      → init_expired b (n.tag tag) (move_by n.own first) (plain n pack c) ≡ plain_waited n pack (init_expired b tag first c)
  init_expired_named true tag first c k = ap (λ (d : Context P). init_outcome d false) (named_send_init n are pack tag first c k)
  init_expired_named false tag first c k = refl

  init_if_named : (b : Bool) (tag first : ℕ) (t1 : Timer) (c : Context P) → Knows n pack c
      → init_if b (n.tag tag) (move_by n.own first) t1 (plain n pack c) ≡ plain_waited n pack (init_if b tag first t1 c)
  init_if_named true tag first t1 c k = init_expired_named (is_running (expire c.now t1)) tag first c k
  init_if_named false tag first t1 c k = refl

  waiting_unless_named : (b : Bool) (tag first : ℕ) (t1 : Timer) (c : Context P)
      → waiting_unless b (n.tag tag) (move_by n.own first) t1 (plain n pack c) ≡ named_endpoint_state n pack (waiting_unless b tag first t1 c)
  waiting_unless_named true tag first t1 c = refl
  waiting_unless_named false tag first t1 c = refl

  -- ---- by state

  settled_in_named : (phase : Phase) (t : Tcb) (c : Context P) → Knows n pack c
      → after_timers (named_phase n phase) (after_ticks (tick_timers (named_tcb n t) (plain n pack c))) ≡ named_endpoint_state n pack (after_timers phase (after_ticks (tick_timers t c)))
  settled_in_named phase t c k =
      endpoint_state_left_named phase (after_ticks (tick_timers t c)) _ (ap (λ (x : Ticking P). after_ticks x) (ticked_named t c k) ∙ settled_named (tick_timers t c) (ticked_stays t c ∙ k))

  shuts_again : Again send_shutdown
  shuts_again t c k = (send_shutdown_named n are pack t c k, shutdown_stays t c)

  acks_again : Again send_shutdown_ack
  acks_again t c k = (acked_named n are pack t c k, shutdown_ack_stays t c)

  tick_open_named : (phase : Phase) (t : Tcb) (c : Context P) → Knows n pack c → tick_open (named_phase n phase) (named_tcb n t) (plain n pack c) ≡ named_endpoint_state n pack (tick_open phase t c)
  tick_open_named (CookieEchoed t1 cookie) t c k = endpoint_state_left_named (CookieEchoed (expire c.now t1) cookie) _ _ (cookie_named t1 cookie t c k)
  tick_open_named Established t c k = settled_in_named Established t c k
  tick_open_named ShutdownPending t c k = settled_in_named ShutdownPending t c k
  tick_open_named (ShutdownSent t2) t c k = endpoint_state_left_named (ShutdownSent (expire c.now t2)) _ _ (t2_named send_shutdown shuts_again t2 t c k)
  tick_open_named ShutdownReceived t c k = settled_in_named ShutdownReceived t c k
  tick_open_named (ShutdownAckSent t2) t c k = endpoint_state_left_named (ShutdownAckSent (expire c.now t2)) _ _ (t2_named send_shutdown_ack acks_again t2 t c k)

  tick_named : (st : State) (c : Context P) → Knows n pack c → tick_in (named_state n st) (plain n pack c) ≡ named_endpoint_state n pack (tick_in st c)
  tick_named Closed c k = refl
  tick_named (CookieWait tag first t1) c k =
      let x : InitOutcome P = tick_init tag first t1 c in
      ap (λ (y : InitOutcome P). after_init_timer (n.tag tag) (move_by n.own first) (expire c.now t1) y) (init_if_named (is_due c.now t1) tag first t1 c k)
      ∙ waiting_unless_named x.has_ended tag first (expire c.now t1) x.context
  tick_named (Open phase t) c k = tick_open_named phase t c k

  advance_if_named : (b : Bool) (now : ℕ) (s : EndpointState P) → Knows n pack s.context → advance_unless b now (named_endpoint_state n pack s) ≡ named_endpoint_state n pack (advance_unless b now s)
  advance_if_named true now s k = refl
  advance_if_named false now s k = tick_named s.state (record s.context { now = now }) k

  pub advance_named : (now : ℕ) (s : EndpointState P) → Knows n pack s.context → advance now (named_endpoint_state n pack s) ≡ named_endpoint_state n pack (advance now s)
  advance_named now s k = advance_if_named (nat_lt now s.context.now) now s k
