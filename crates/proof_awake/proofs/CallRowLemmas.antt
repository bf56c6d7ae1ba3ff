-- Rows of the calls that send, of resets and of the passing of time: its timers run after each where they ran before.
use Rattle.std.proofs.Common.{◌≡◌, ◌∙◌, cond, ℕ, Bool, true, false, Option, Some, None, List, [], ◌∷◌, codes, refl, sym, ap, subst, arith, ◌||◌}
use Rattle.std.specs.Prelude.{◌&&◌, ◌||◌, nat_lt}
use Rattle.sctp_serial.specs.Messages.{Message}
use Rattle.sctp_serial.specs.declared.api.StreamId.{StreamId}
use Rattle.sctp_wire.specs.Parameter.{ParameterTree, outgoing_reset_request, incoming_reset_request, reset_response}
use Rattle.sctp_wire.specs.Cause.{user_initiated_abort}
use Rattle.sctp_packet.specs.Chunk.{re_config_chunk}
use Rattle.sctp_state.specs.declared.api.ErrorKind.TheVariants.{TooManyRetries}
use Rattle.sctp_state.specs.declared.api.SocketState.{SocketState}
use Rattle.sctp_state.specs.declared.api.errors.SendError.{SendError}
use Rattle.sctp_state.specs.declared.api.errors.ResetStreamsError.{ResetStreamsError}
use Rattle.sctp_state.specs.TxErrorCounter.{is_exhausted}
use Rattle.sctp_state.specs.Options.{Options, SendOptions}
use Rattle.sctp_state.specs.Events.{OnAborted, OnIncomingStreamReset, numbers_of}
use Rattle.sctp_state.specs.RetransmissionTimeout.{rto}
use Rattle.sctp_state.specs.Timer.{Timer, is_due, is_running, expire, expire_once}
use Rattle.sctp_rx.specs.DataTracker.{ack_timeout}
use Rattle.sctp_reassembly.specs.ReassemblyQueue.{Reassembly, defer, reset}
use Rattle.spec_endpoint.specs.Association.{Tcb, Phase, CookieEchoed, Established, ShutdownPending, ShutdownSent, ShutdownReceived, ShutdownAckSent, State, Closed, CookieWait, Open, Heartbeats, Context, EndpointState, open_as}
use Rattle.spec_endpoint.specs.Packets.{new_packet, emit_event_in}
use Rattle.spec_endpoint.specs.Heartbeats.{counted_on, heartbeat_chunk, send_heartbeat_if, heartbeat_timeout_if, next_beat}
use Rattle.spec_endpoint.specs.ResetRequests.{Requests, Outcome, Unsettled, Done, Denied, outcome, in_progress, performed, nothing_to_do, is_last_request, is_next_request, is_known_request, is_final, lasting, expire_reconfig_timer, clear_deferral, is_unanswered}
use Rattle.spec_endpoint.specs.Sending.{AfterSending, is_before_cookie_ack, add_request, send_cookie, send_in}
use Rattle.spec_endpoint.specs.Shutdown.{send_shutdown, send_shutdown_ack, too_many}
use Rattle.spec_endpoint.specs.StreamReset.{Handling, handling, process, is_ahead, resets_unless, outgoing_by, incoming_if, on_outcome, is_outgoing, on_parameter, HandledParameters, handle_next, handle_all, send_responses, finish_reconfig_if, on_reconfig, prepare_reset_stream, prepare_all, streams_reset_unless, reset_refusal}
use Rattle.spec_endpoint.specs.Timers.{Ticking, tick_ack, t3_if, tick_t3, tick_interval, tick_timeout, request_again, errs_if, requests_if, ticking, tick_timers, TimerOutcome, after_timers, abort_if, abort_or_send_if, after_ticks_if, after_ticks, t2_expired, t2_if, waits_unless, t1_expired, t1_if, after_init_timer, init_expired, init_if, tick_open, tick_in, advance_unless, advance, is_owed, t3_with_cookie}
use Rattle.spec_endpoint.specs.Calls.{shown_state, send_refusal, send_refusal_of, offered, offer, offer_all, sent_unless, send, send_many, take_message, told_if, opens_window, without_first_message}
use Rattle.proof_awake.specs.Awake.{Runs}
use Rattle.proof_awake.specs.Invariant.{BlockHolds, Beats, ContextHolds, is_established, waits, PhaseRuns, StateHolds}
use Rattle.proof_awake.proofs.TimerLemmas.{expire_restarts, beats_after}
use Rattle.proof_awake.proofs.SenderLemmas.{timeout_holds}
use Rattle.proof_awake.proofs.BlockLemmas.{rto_least, request_lasts, last_set, handled_holds, woken_holds, delay_holds, with_sender, with_requests, with_tracker}
use Rattle.proof_awake.proofs.SendingRowLemmas.{Beside, goes_out, chunk_goes_out, Holds, sends_buffered, cookie_goes}
use Rattle.proof_awake.proofs.RowLemmas.{Going, EndHolds, where_open_holds, send_in_holds, closes, abort_holds, ack_forced}

with_reassembly : (b : Bool) (t : Tcb) (r : Reassembly) → BlockHolds b t → BlockHolds b (record t { reassembly = r })
with_reassembly b t r h = record { sender = h.sender; requests = h.requests; tracker = h.tracker; rtt = h.rtt }

told_if_holds : (b opens : Bool) (t : Tcb) → BlockHolds b t → BlockHolds b (told_if opens t)
told_if_holds b true t h = ack_forced b t h
told_if_holds b false t h = h

-- before it is due a timer is as it was
not_yet : (now : ℕ) (t : Timer) → is_due now t ≡ false → expire now t ≡ t
not_yet now t e = ap (λ b. let u : Timer = cond b (expire_once t) t in u) e

beats_next : (avoids : Bool) (b : Bool) (now : ℕ) (o : Options) (h : Heartbeats) → ContextHolds avoids b o h → ContextHolds avoids b o (next_beat now h)
beats_next avoids b now o h k = record { options = k.options; restarts = expire_restarts now h.interval ∙ k.restarts; interval = by b k.interval }
  where
    by : (b : Bool) → Beats b h.interval → Beats b (expire now h.interval)
    by true i = beats_after now h.interval k.restarts i
    by false i = tt

module _ {P : Type 0} (avoids : Bool) where
  -- ---- RE-CONFIG

  module _ (beats waits : Bool) where
    abbrev pub Handled : Handling P → Type 0
    Handled x = Holds avoids beats waits x.tcb x.context

    processed : (number result : ℕ) (x : Handling P) → Handled x → Handled (process number result x)
    processed number result x h = (h.0, with_requests waits x.tcb _ (last_set number result x.tcb.requests h.1.requests) h.1)

    resets_by : (b : Bool) (number last_tsn : ℕ) (streams : List StreamId) (x : Handling P) → Handled x → Handled (resets_unless b number last_tsn streams x)
    resets_by true number last_tsn streams x h =
        let t : Tcb = record x.tcb { reassembly = defer last_tsn streams x.tcb.reassembly } in
        processed number in_progress (record x { tcb = t }) (h.0, with_reassembly waits x.tcb t.reassembly h.1)
    resets_by false number last_tsn streams x h =
        let t : Tcb = record x.tcb { reassembly = reset streams x.tcb.reassembly } in
        let c : Context P = emit_event_in (OnIncomingStreamReset (numbers_of streams)) x.context in
        processed number performed (record x { tcb = t; context = c }) (h.0, with_reassembly waits x.tcb t.reassembly h.1)

    outgoing : (a b d : Bool) (number last_tsn : ℕ) (streams : List StreamId) (x : Handling P) → Handled x → Handled (outgoing_by a b d number last_tsn streams x)
    outgoing true b true number last_tsn streams x h = h
    outgoing true b false number last_tsn streams x h = resets_by (is_ahead last_tsn x.tcb) number last_tsn streams x h
    outgoing false true d number last_tsn streams x h = resets_by (is_ahead last_tsn x.tcb) number last_tsn streams x h
    outgoing false false d number last_tsn streams x h = h

    incoming : (b : Bool) (number : ℕ) (x : Handling P) → Handled x → Handled (incoming_if b number x)
    incoming true number x h = processed number nothing_to_do x h
    incoming false number x h = h

    outcome_beside : (o : Outcome) (c : Context P) → Beside avoids beats c → Beside avoids beats (on_outcome o c)
    outcome_beside Unsettled c h = h
    outcome_beside (Done streams) c h = h
    outcome_beside (Denied streams) c h = h

    parameter : (p : ParameterTree) (x : Handling P) → Handled x → Handled (on_parameter p x)
    parameter (outgoing_reset_request number response last_tsn streams) x h =
        outgoing (is_last_request number x.tcb.requests) (is_next_request number x.tcb.requests) (is_final x.tcb.requests.result) number last_tsn.0 streams x h
    parameter (incoming_reset_request number streams) x h = incoming (is_known_request number x.tcb.requests) number x h
    parameter (reset_response number result sender receiver) x h =
        let l = rto_least x.tcb.rtt h.1.rtt in (
          outcome_beside (outcome number result x.tcb.requests.current) x.context h.0,
          with_requests waits x.tcb _ (handled_holds x.context.now (rto x.tcb.rtt) number result x.tcb.requests (omega (arith, l)) h.1.requests) h.1,
        )
    parameter p x h = h

    next : (b : Bool) (rest : Handling P → HandledParameters P) (p : ParameterTree) (x : Handling P) → ((y : Handling P) → Handled y → Handled (rest y).handling)
        → Handled x → Handled (handle_next b rest p x).handling
    next true rest p x on h = h
    next false rest p x on h = on (on_parameter p x) (parameter p x h)

    pub handles_all : (ps : List ParameterTree) (b : Bool) (x : Handling P) → Handled x → Handled (handle_all ps b x).handling
    handles_all [] b x h = h
    handles_all (p ∷ ps) b x h = next (is_outgoing p && b) (handle_all ps (is_outgoing p || b)) p x (λ y k. handles_all ps (is_outgoing p || b) y k) h

    pub responses_go : (rs : List ParameterTree) (t : Tcb) (c : Context P) → Beside avoids beats c → Beside avoids beats (send_responses rs t c)
    responses_go [] t c h = h
    responses_go (r ∷ rs) t c h = chunk_goes_out avoids beats (re_config_chunk (r ∷ rs)) t c h

  finished : (b : Bool) (phase : Phase) (x : Handling P) → PhaseRuns phase → Holds avoids (is_established phase) (waits avoids phase) x.tcb x.context → EndHolds avoids (finish_reconfig_if b phase x)
  finished true phase x r h =
      let k = sends_buffered avoids (is_established phase) (waits avoids phase) (is_before_cookie_ack phase) x.tcb (send_responses x.responses x.tcb x.context)
      (responses_go (is_established phase) (waits avoids phase) x.responses x.tcb x.context h.0, h.1) in
      (k.0, (r, k.1))
  finished false phase x r h = (h.0, (r, h.1))

  pub reconfig_holds : (ps : List ParameterTree) (phase : Phase) (t : Tcb) (c : Context P) → Going avoids phase t c → EndHolds avoids (on_reconfig ps phase t c)
  reconfig_holds [] phase t c h = h
  reconfig_holds (p ∷ ps) phase t c h =
      let x : HandledParameters P = handle_all (p ∷ ps) false (handling t c) in
      finished x.is_whole phase x.handling h.1.0 (handles_all (is_established phase) (waits avoids phase) (p ∷ ps) false (handling t c) (h.0, h.1.1))

  prepared : (ids : List ℕ) (s : State) (c : Context P) → StateHolds avoids s c.options c.heartbeats → StateHolds avoids s (prepare_all ids c).options (prepare_all ids c).heartbeats
  prepared [] s c h = h
  prepared (id ∷ ids) s c h = prepared ids s (prepare_reset_stream id c) h

  streams_reset_unless_holds : (o : Option ResetStreamsError) (ids : List ℕ) (s : EndpointState P) → EndHolds avoids s → EndHolds avoids (streams_reset_unless o ids s)
  streams_reset_unless_holds None ids s h = where_open_holds avoids send_in (send_in_holds avoids) s.state (prepare_all ids s.context) (prepared ids s.state s.context h)
  streams_reset_unless_holds (Some e) ids s h = h

  pub reset_streams_holds : (ids : List ℕ) (s : EndpointState P) → EndHolds avoids s → EndHolds avoids (streams_reset_unless (reset_refusal s.state) ids s)
  reset_streams_holds ids s h = streams_reset_unless_holds (reset_refusal s.state) ids s h

  -- ---- messages

  offered_holds : (r : Option SendError) (m : Message) (o : SendOptions) (s : State) (c : Context P) → StateHolds avoids s c.options c.heartbeats
      → StateHolds avoids s (offered r m o c).options (offered r m o c).heartbeats
  offered_holds None m o s c h = h
  offered_holds (Some e) m o s c h = h

  sent_unless_holds : (r : Option SendError) (s : State) (c : Context P) → StateHolds avoids s c.options c.heartbeats → EndHolds avoids (sent_unless r (record { state = s; context = c }))
  sent_unless_holds None s c h = where_open_holds avoids send_in (send_in_holds avoids) s c h
  sent_unless_holds (Some e) s c h = h

  pub send_call_holds : (m : Message) (o : SendOptions) (s : EndpointState P) → EndHolds avoids s → EndHolds avoids (send m o s)
  send_call_holds m o s h =
      let shown : SocketState = shown_state s.state in
      sent_unless_holds (send_refusal_of m s) s.state (offer m o shown s.context) (offered_holds (send_refusal m shown s.context) m o s.state s.context h)

  offers_hold : (ms : List Message) (o : SendOptions) (shown : SocketState) (s : State) (c : Context P) → StateHolds avoids s c.options c.heartbeats
      → StateHolds avoids s (offer_all ms o shown c).options (offer_all ms o shown c).heartbeats
  offers_hold [] o shown s c h = h
  offers_hold (m ∷ ms) o shown s c h = offers_hold ms o shown s (offer m o shown c) (offered_holds (send_refusal m shown c) m o s c h)

  pub send_many_holds : (ms : List Message) (o : SendOptions) (s : EndpointState P) → EndHolds avoids s → EndHolds avoids (send_many ms o s)
  send_many_holds ms o s h =
      where_open_holds avoids send_in (send_in_holds avoids) s.state (offer_all ms o (shown_state s.state) s.context) (offers_hold ms o (shown_state s.state) s.state s.context h)

  take_in_holds : (s : State) (c : Context P) → StateHolds avoids s c.options c.heartbeats → EndHolds avoids (take_message (record { state = s; context = c }))
  take_in_holds Closed c h = h
  take_in_holds (CookieWait tag first t1) c h = h
  take_in_holds (Open phase t) c h =
      let u : Tcb = without_first_message t in
      (h.0, (h.1.0, told_if_holds (waits avoids phase) (opens_window c.options t.reassembly u.reassembly) u (with_reassembly (waits avoids phase) t _ h.1.1)))

  pub take_holds : (s : EndpointState P) → EndHolds avoids s → EndHolds avoids (take_message s)
  take_holds s h = take_in_holds s.state s.context h

  -- ---- time

  too_many_holds : (b : Bool) (t : Tcb) (c : Context P) → Beside avoids b c → EndHolds avoids (too_many t c)
  too_many_holds b t c h =
      abort_holds avoids b (user_initiated_abort (codes "Too many retransmissions")) (OnAborted TooManyRetries (codes "Too many retransmissions")) t c h

  module _ (phase : Phase) where
    abbrev pub Ticks : Ticking P → Type 0
    Ticks x = Holds avoids (is_established phase) (waits avoids phase) x.tcb x.context

    pub ticks_ack : (x : Ticking P) → Ticks x → Ticks (tick_ack x)
    ticks_ack x h = (h.0, with_tracker (waits avoids phase) x.tcb (ack_timeout x.context.now x.tcb.tracker.tracker) (delay_holds x.context.now x.tcb.tracker.tracker h.1.tracker) h.1)

    ticks_t3 : (b : Bool) (x : Ticking P) → Ticks x → Ticks (t3_if b x)
    ticks_t3 true x h =
        (h.0, with_sender (waits avoids phase) (waits avoids phase) x.tcb _ (timeout_holds (waits avoids phase) x.context.now x.tcb.sender h.1.sender x.context.emitted) h.1)
    ticks_t3 false x h = h

    ticks_interval : (b : Bool) (t : Tcb) (c : Context P) → Beside avoids (is_established phase) c → Beside avoids (is_established phase) (send_heartbeat_if b t c)
    ticks_interval true t c h = chunk_goes_out avoids (is_established phase) (heartbeat_chunk (counted_on c).heartbeats.counter) t (counted_on c) (beats_next avoids (is_established phase) c.now c.options c.heartbeats h)
    ticks_interval false t c h = h

    ticks_timeout : (b : Bool) (c : Context P) → Beside avoids (is_established phase) c → Beside avoids (is_established phase) (heartbeat_timeout_if b c)
    ticks_timeout true c h = record { options = h.options; restarts = h.restarts; interval = h.interval }
    ticks_timeout false c h = h

    ticks_request_again : (b : Bool) (x : Ticking P) → Ticks x → Ticks (request_again b x)
    ticks_request_again true x h = h
    ticks_request_again false x h =
        let l = rto_least x.tcb.rtt h.1.rtt in
        let t : Tcb = record x.tcb { requests = lasting (rto x.tcb.rtt) x.tcb.requests } in (
          goes_out avoids (is_established phase) (add_request t.requests.current (new_packet x.context.options t)) x.context h.0,
          with_requests (waits avoids phase) x.tcb _ (request_lasts (rto x.tcb.rtt) x.tcb.requests (omega (arith, l)) h.1.requests) h.1,
        )

    errs : (b : Bool) (c : Context P) → Beside avoids (is_established phase) c → Beside avoids (is_established phase) (errs_if b c)
    errs true c h = h
    errs false c h = h

    ticks_requests : (b : Bool) (x : Ticking P) → Ticks x → Ticks (requests_if b x)
    ticks_requests true x h =
        let r : Requests = clear_deferral (expire_reconfig_timer x.context.now x.tcb.requests) in
        let d : Context P = errs_if (is_unanswered x.tcb.requests.current) x.context in
        let y : Ticking P = record { tcb = record x.tcb { requests = r }; context = d; has_expired = true } in
        ticks_request_again (is_exhausted d.errors) y
        (errs (is_unanswered x.tcb.requests.current) x.context h.0, with_requests (waits avoids phase) x.tcb r (woken_holds x.context.now x.tcb.requests h.1.requests) h.1)
    ticks_requests false x h = h

    pub ticks : (t : Tcb) (c : Context P) → Holds avoids (is_established phase) (waits avoids phase) t c → Ticks (tick_timers t c)
    unfolding tick_timers
    ticks t c h =
        let x : Ticking P = tick_ack (ticking t c) in
        let y : Ticking P = tick_t3 x in
        let z : Ticking P = tick_interval y in
        let v : Ticking P = tick_timeout z in
        let hx = ticks_ack (ticking t c) h in
        let hy = ticks_t3 (is_due x.context.now x.tcb.sender.t3) x hx in
        let hz = ticks_interval (is_due y.context.now y.context.heartbeats.interval) y.tcb y.context hy.0 in
        let hv = ticks_timeout (is_due z.context.now z.context.heartbeats.timeout) z.context hz in
        ticks_requests (is_due v.context.now v.tcb.requests.timer) v (hv, hy.1)

    -- what it leads to, where the phase's own timer runs
    abbrev Leads : TimerOutcome P → Type 0
    Leads x = EndHolds avoids (after_timers phase x)

    module _ (r : PhaseRuns phase) where
      stays : (t : Tcb) (c : Context P) → Holds avoids (is_established phase) (waits avoids phase) t c → EndHolds avoids (open_as phase t c)
      stays t c h = (h.0, (r, h.1))

      ended_if : (b : Bool) (t : Tcb) (c : Context P) → Holds avoids (is_established phase) (waits avoids phase) t c → Leads (abort_if b t c)
      ended_if true t c h = too_many_holds (is_established phase) t c h.0
      ended_if false t c h = stays t c h

      sent_or_ended : (b : Bool) (t : Tcb) (c : Context P) → Holds avoids (is_established phase) (waits avoids phase) t c → Leads (abort_or_send_if b t c)
      sent_or_ended true t c h = too_many_holds (is_established phase) t c h.0
      sent_or_ended false t c h =
          let k = sends_buffered avoids (is_established phase) (waits avoids phase) false t c h in
          (k.0, (r, k.1))

      settled_if : (b : Bool) (t : Tcb) (c : Context P) → Holds avoids (is_established phase) (waits avoids phase) t c → Leads (after_ticks_if b t c)
      settled_if true t c h = sent_or_ended (is_exhausted c.errors) t c h
      settled_if false t c h = stays t c h

      settled : (x : Ticking P) → Ticks x → Leads (after_ticks x)
      settled x h = settled_if (x.has_expired || is_owed x.tcb x.context) x.tcb x.context h

  -- ---- T2-shutdown

  module _ (phase : Phase) where
    t2_expires : (b : Bool) (again : Tcb → Context P → Context P) → ((t : Tcb) (c : Context P) → Beside avoids (is_established phase) c → Beside avoids (is_established phase) (again t c)) → (b ≡ true → PhaseRuns phase)
        → (t : Tcb) (c : Context P) → Holds avoids (is_established phase) (waits avoids phase) t c → Leads phase (t2_expired b again t c)
    t2_expires true again f r t c h = sent_or_ended phase (r refl) (is_exhausted (again t c).errors) t (again t c) (f t c h.0, h.1)
    t2_expires false again f r t c h = too_many_holds (is_established phase) t c h.0

  -- ---- T1-cookie

  module _ (new : Timer) (cookie : List ℕ) where
    waited : (b : Bool) (t : Tcb) (c : Context P) → Runs new → Holds avoids false false t c → Leads (CookieEchoed new cookie) (waits_unless b t c)
    waited true t c r h = ended_if (CookieEchoed new cookie) r (is_exhausted c.errors) t c h
    waited false t c r h = (h.0, (r, h.1))

    t1_expires : (b : Bool) → is_running new ≡ b → (t : Tcb) (c : Context P) → Holds avoids false false t c → Leads (CookieEchoed new cookie) (t1_expired b cookie t c)
    t1_expires true r t c h =
        let x : AfterSending P = send_cookie cookie t c in
        let k = cookie_goes avoids false false cookie t c h in
        ended_if (CookieEchoed new cookie) r (is_exhausted x.context.errors) x.tcb x.context k
    t1_expires false r t c h = closes avoids false (OnAborted TooManyRetries (codes "No COOKIE_ACK received")) c h.0

    with_cookie : (b : Bool) (x : Ticking P) → Holds avoids false false x.tcb x.context
        → let y : Ticking P = t3_with_cookie b x in Holds avoids false false y.tcb y.context
    with_cookie true x h = ticks_t3 (CookieEchoed new cookie) (is_due x.context.now x.tcb.sender.t3) x h
    with_cookie false x h = h

    t1_goes : (b : Bool) (t1 : Timer) (x : Ticking P) → is_due x.context.now t1 ≡ b → new ≡ expire x.context.now t1 → Runs t1 → Holds avoids false false x.tcb x.context
        → Leads (CookieEchoed new cookie) (t1_if b t1 cookie x)
    t1_goes true t1 x e n r h =
        let y : Ticking P = t3_with_cookie x.context.options.avoid_stalls x in
        t1_expires (is_running (expire x.context.now t1)) (ap is_running n) y.tcb y.context (with_cookie x.context.options.avoid_stalls x h)
    t1_goes false t1 x e n r h = waited x.has_expired x.tcb x.context (subst Runs (sym (n ∙ not_yet x.context.now t1 e)) r) h

  -- ---- T1-init

  init_expires : (b : Bool) (tag first : ℕ) (new : Timer) (c : Context P) → is_running new ≡ b → Beside avoids false c → EndHolds avoids (after_init_timer tag first new (init_expired b tag first c))
  init_expires true tag first new c r h = (goes_out avoids false _ c h, r)
  init_expires false tag first new c r h = closes avoids false (OnAborted TooManyRetries (codes "No INIT_ACK received")) c h

  init_goes : (b : Bool) (tag first : ℕ) (t1 new : Timer) (c : Context P) → is_due c.now t1 ≡ b → new ≡ expire c.now t1 → Runs t1 → Beside avoids false c
      → EndHolds avoids (after_init_timer tag first new (init_if b tag first t1 c))
  init_goes true tag first t1 new c e n r h = init_expires (is_running (expire c.now t1)) tag first new c (ap is_running n) h
  init_goes false tag first t1 new c e n r h = (h, subst Runs (sym (n ∙ not_yet c.now t1 e)) r)

  -- ---- by state

  module _ (now : ℕ) (again : Tcb → Context P → Context P) (t2 : Timer) (phase : Phase) (is_its : PhaseRuns phase ≡ Runs (expire now t2)) (f : (t : Tcb) (c : Context P) → Beside avoids (is_established phase) c → Beside avoids (is_established phase) (again t c)) where
    t2_goes : (b : Bool) → is_due now t2 ≡ b → Runs t2 → (x : Ticking P) → Ticks phase x → Leads phase (t2_if b now again t2 x)
    t2_goes true e r x h = t2_expires phase (is_running (expire now t2)) again f (λ g. subst (λ (A : Type 0). A) (sym is_its) g) x.tcb x.context h
    t2_goes false e r x h = settled phase (subst (λ (A : Type 0). A) (sym is_its) (subst Runs (sym (not_yet now t2 e)) r)) x h

  tick_open_holds : (phase : Phase) (t : Tcb) (c : Context P) → Going avoids phase t c → EndHolds avoids (tick_open phase t c)
  tick_open_holds (CookieEchoed t1 cookie) t c h =
      let x : Ticking P = tick_ack (ticking t c) in
      t1_goes (expire c.now t1) cookie (is_due c.now t1) t1 x refl refl h.1.0 (ticks_ack (CookieEchoed t1 cookie) (ticking t c) (h.0, h.1.1))
  tick_open_holds Established t c h = settled Established tt (tick_timers t c) (ticks Established t c (h.0, h.1.1))
  tick_open_holds ShutdownPending t c h = settled ShutdownPending tt (tick_timers t c) (ticks ShutdownPending t c (h.0, h.1.1))
  tick_open_holds (ShutdownSent t2) t c h =
      let next : Phase = ShutdownSent (expire c.now t2) in
      t2_goes c.now send_shutdown t2 next refl (λ u d k. chunk_goes_out avoids false _ u d k) (is_due c.now t2) refl h.1.0 (tick_timers t c) (ticks next t c (h.0, h.1.1))
  tick_open_holds ShutdownReceived t c h = settled ShutdownReceived tt (tick_timers t c) (ticks ShutdownReceived t c (h.0, h.1.1))
  tick_open_holds (ShutdownAckSent t2) t c h =
      let next : Phase = ShutdownAckSent (expire c.now t2) in
      t2_goes c.now send_shutdown_ack t2 next refl (λ u d k. chunk_goes_out avoids false _ u d k) (is_due c.now t2) refl h.1.0 (tick_timers t c) (ticks next t c (h.0, h.1.1))

  tick_holds : (s : State) (c : Context P) → StateHolds avoids s c.options c.heartbeats → EndHolds avoids (tick_in s c)
  tick_holds Closed c h = h
  tick_holds (CookieWait tag first t1) c h = init_goes (is_due c.now t1) tag first t1 (expire c.now t1) c refl refl h.1 h.0
  tick_holds (Open phase t) c h = tick_open_holds phase t c h

  advance_if_holds : (b : Bool) (now : ℕ) (s : EndpointState P) → EndHolds avoids s → EndHolds avoids (advance_unless b now s)
  advance_if_holds true now s h = h
  advance_if_holds false now s h = tick_holds s.state (record s.context { now = now }) h

  pub advance_holds : (now : ℕ) (s : EndpointState P) → EndHolds avoids s → EndHolds avoids (advance now s)
  advance_holds now s h = advance_if_holds (nat_lt now s.context.now) now s h
