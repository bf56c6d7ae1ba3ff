-- Time, and what opens an association, leave no stream in line where no item is kept.
use Rattle.std.proofs.Common.{◌≡◌, ℕ, ◌≤◌, Bool, true, false, Option, Some, None, Result, Ok, Err, List, codes, refl, sym, subst, ◌∙◌, arith, ◌||◌}
use Rattle.std.specs.Prelude.{not, min}
use Rattle.sctp_wire.specs.Cause.{user_initiated_abort}
use Rattle.sctp_packet.specs.Chunk.{InitTree, cookie_ack_chunk}
use Rattle.sctp_state.specs.declared.api.ErrorKind.TheVariants.{TooManyRetries}
use Rattle.sctp_state.specs.TxErrorCounter.{is_exhausted}
use Rattle.sctp_state.specs.Timer.{Timer, is_due, is_running, expire}
use Rattle.sctp_state.specs.Events.{OnAborted}
use Rattle.sctp_capabilities.specs.declared.state_cookie.StateCookieError.{StateCookieError}
use Rattle.sctp_capabilities.specs.Capabilities.{negotiate, zero_checksum_enabled}
use Rattle.sctp_capabilities.specs.StateCookie.{Cookie, read_cookie}
use Rattle.spec_endpoint.specs.Association.{Tcb, tcb, Phase, CookieEchoed, Established, ShutdownPending, ShutdownSent, ShutdownReceived, ShutdownAckSent, State, Closed, CookieWait, Open, Context, EndpointState, Endpoint}
use Rattle.spec_endpoint.specs.Packets.{PacketDraft, add, packet_to, new_packet}
use Rattle.spec_endpoint.specs.Heartbeats.{heartbeat_chunk, counted_on, send_heartbeat_if, heartbeat_timeout_if}
use Rattle.spec_endpoint.specs.ResetRequests.{is_unanswered, lasting, clear_deferral, expire_reconfig_timer}
use Rattle.sctp_state.specs.RetransmissionTimeout.{rto}
use Rattle.spec_endpoint.specs.Sending.{AfterSending, open_with, send_with, send_buffered, add_request, is_before_cookie_ack, send_cookie}
use Rattle.spec_endpoint.specs.Shutdown.{send_shutdown, send_shutdown_ack}
use Rattle.proof_awake.specs.Awake.{is_none}
use Rattle.proof_awake.specs.Line.{PhaseHasNoLine}
use Rattle.sctp_tx_outstanding.specs.Item.{Item}
use Rattle.sctp_tx_outstanding.specs.Losses.{nack_all}
use Rattle.sctp_tx_queue.specs.SendQueue.{Queue}
use Rattle.spec_endpoint.specs.Timers.{Ticking, tick_ack, t3_if, tick_t3, tick_interval, tick_timeout, request_again, errs_if, requests_if, ticking, tick_timers, after_timers, abort_if, abort_or_send_if, after_ticks_if, after_ticks, t2_expired, t2_if, waits_unless, t1_expired, t1_if, after_init_timer, init_expired, init_if, tick_open, tick_in, advance_unless, is_owed, t3_with_cookie}
use Rattle.spec_endpoint.specs.Opening.{cookie_ack, connect_in, on_init_open, on_init_in, queue_anew, agreed_by, maker, echo_or_abort, cookie_in, on_init_ack_in, enter_connected, on_cookie_ack, CookieResolution, EstablishNew, RestartDetected, SimultaneousInit, MaintainExisting, Discard, InvalidTag, resolve_cookie, tcb_by, queue_for, identity_of, anew, maintain_existing, maintain_existing_in, restarts_in, on_resolution, on_read_cookie, on_cookie_echo, restarted, on_cookie_unless, is_spent_at, tag_from, word, drew_word}
use Rattle.proof_awake.specs.Invariant.{StateHolds, HasLimits, WindowsHaveRoom}
use Rattle.proof_awake.proofs.ItemsLemmas.{none_lost}
use Rattle.proof_awake.proofs.BlockLemmas.{new_block}
use Rattle.proof_awake.proofs.CallRowLemmas.{ticks}
use Rattle.proof_awake.proofs.OpeningRowLemmas.{beside_in, enters}
use Rattle.proof_awake.proofs.RowLemmas.{Going, EndHolds}
use Rattle.proof_awake.proofs.LineRowLemmas.{Big, Lined, EndLined, big_emitted, big_chunk, big_cookie, big_sent, out_lined, chunk_lined, sent_lined, buffered_lined, abort_lined}
use Rattle.proof_awake.proofs.LineLemmas.{limit_added}

line_alike : (phase : Phase) (kept after : List Item) (q : Queue) → is_none after ≡ is_none kept → PhaseHasNoLine phase kept q → PhaseHasNoLine phase after q
line_alike (CookieEchoed t1 cookie) kept after q e h = tt
line_alike Established kept after q e h = λ n. h (sym e ∙ n)
line_alike ShutdownPending kept after q e h = tt
line_alike (ShutdownSent t2) kept after q e h = tt
line_alike ShutdownReceived kept after q e h = tt
line_alike (ShutdownAckSent t2) kept after q e h = tt

-- a phase of which nothing is asked
abbrev Apart : Phase → Type 0
Apart phase = (kept : List Item) (q : Queue) → PhaseHasNoLine phase kept q

module _ {P : Type 0} (avoids : Bool) where
  -- ---- time

  module _ (phase : Phase) where
    abbrev Quiet : Ticking P → Type 0
    Quiet x = Lined avoids (Open phase x.tcb) x.context

    quiet_t3 : (b : Bool) (x : Ticking P) → Quiet x → Quiet (t3_if b x)
    quiet_t3 true x l =
        let items = x.tcb.sender.outstanding.items in
        (l.0, line_alike phase items.kept (nack_all items x.context.emitted).items.kept x.context.queue (none_lost items x.context.emitted) l.1)
    quiet_t3 false x l = l

    quiet_beat : (b : Bool) (t : Tcb) (c : Context P) → Lined avoids (Open phase t) c → Lined avoids (Open phase t) (send_heartbeat_if b t c)
    quiet_beat true t c l = chunk_lined avoids (heartbeat_chunk (counted_on c).heartbeats.counter) t (Open phase t) (counted_on c) l
    quiet_beat false t c l = l

    quiet_timeout : (b : Bool) (t : Tcb) (c : Context P) → Lined avoids (Open phase t) c → Lined avoids (Open phase t) (heartbeat_timeout_if b c)
    quiet_timeout true t c l = l
    quiet_timeout false t c l = l

    quiet_again : (b : Bool) (x : Ticking P) → Quiet x → Quiet (request_again b x)
    quiet_again true x l = l
    quiet_again false x l =
        let t : Tcb = record x.tcb { requests = lasting (rto x.tcb.rtt) x.tcb.requests } in
        out_lined avoids (add_request t.requests.current (new_packet x.context.options t)) (Open phase t) x.context l

    quiet_errs : (b : Bool) (t : Tcb) (c : Context P) → Lined avoids (Open phase t) c → Lined avoids (Open phase t) (errs_if b c)
    quiet_errs true t c l = l
    quiet_errs false t c l = l

    quiet_requests : (b : Bool) (x : Ticking P) → Quiet x → Quiet (requests_if b x)
    quiet_requests true x l =
        let t : Tcb = record x.tcb { requests = clear_deferral (expire_reconfig_timer x.context.now x.tcb.requests) } in
        let d : Context P = errs_if (is_unanswered x.tcb.requests.current) x.context in
        quiet_again (is_exhausted d.errors) (record { tcb = t; context = d; has_expired = true }) (quiet_errs (is_unanswered x.tcb.requests.current) t x.context l)
    quiet_requests false x l = l

    quiet_ticks : (t : Tcb) (c : Context P) → Lined avoids (Open phase t) c → Quiet (tick_timers t c)
    unfolding tick_timers
    quiet_ticks t c l =
        let x : Ticking P = tick_ack (ticking t c) in
        let y : Ticking P = tick_t3 x in
        let z : Ticking P = tick_interval y in
        let v : Ticking P = tick_timeout z in
        let ly = quiet_t3 (is_due x.context.now x.tcb.sender.t3) x l in
        let lz = quiet_beat (is_due y.context.now y.context.heartbeats.interval) y.tcb y.context ly in
        let lv = quiet_timeout (is_due z.context.now z.context.heartbeats.timeout) z.tcb z.context lz in
        quiet_requests (is_due v.context.now v.tcb.requests.timer) v lv

    module _ (late : is_before_cookie_ack phase ≡ false) where
      sends_or_ends : (b : Bool) (t : Tcb) (c : Context P) → Going avoids phase t c → Big avoids c → EndLined avoids (after_timers phase (abort_or_send_if b t c))
      sends_or_ends true t c h b = abort_lined avoids (user_initiated_abort (codes "Too many retransmissions")) (OnAborted TooManyRetries (codes "Too many retransmissions")) t c b
      sends_or_ends false t c h b = subst (λ (a : Bool). EndLined avoids (open_with phase (send_buffered a t c))) late (buffered_lined avoids phase t c b h)

      settles_if : (b : Bool) (t : Tcb) (c : Context P) → Going avoids phase t c → Lined avoids (Open phase t) c → EndLined avoids (after_timers phase (after_ticks_if b t c))
      settles_if true t c h l = sends_or_ends (is_exhausted c.errors) t c h l.0
      settles_if false t c h l = l

  after_ticks_lined : (phase : Phase) → is_before_cookie_ack phase ≡ false → (t : Tcb) (c : Context P) → Going avoids phase t c → Lined avoids (Open phase t) c
      → EndLined avoids (after_timers phase (after_ticks (tick_timers t c)))
  after_ticks_lined phase e t c h l =
      let x : Ticking P = tick_timers t c in
      let k = ticks avoids phase t c (h.0, h.1.1) in
      settles_if phase e (x.has_expired || is_owed x.tcb x.context) x.tcb x.context (k.0, (h.1.0, k.1)) (quiet_ticks phase t c l)

  t2_lined : (phase : Phase) → Apart phase → (b running : Bool) (now : ℕ) (again : Tcb → Context P → Context P) → ((t : Tcb) (c : Context P) → Big avoids c → Big avoids (again t c)) → (t2 : Timer) (x : Ticking P) → Big avoids x.context
      → EndLined avoids (after_timers phase (t2_if b now again t2 x))
  t2_lined phase a true running now again f t2 x h = expired (is_running (expire now t2))
    where
      too_many_big : EndLined avoids (after_timers phase (t2_expired false again x.tcb x.context))
      too_many_big = abort_lined avoids (user_initiated_abort (codes "Too many retransmissions")) (OnAborted TooManyRetries (codes "Too many retransmissions")) x.tcb x.context h

      goes : (b : Bool) (t : Tcb) (c : Context P) → Big avoids c → EndLined avoids (after_timers phase (abort_or_send_if b t c))
      goes true t c k = abort_lined avoids (user_initiated_abort (codes "Too many retransmissions")) (OnAborted TooManyRetries (codes "Too many retransmissions")) t c k
      goes false t c k = (big_sent avoids false (new_packet c.options t) t c k, a _ _)

      expired : (b : Bool) → EndLined avoids (after_timers phase (t2_expired b again x.tcb x.context))
      expired true = goes (is_exhausted (again x.tcb x.context).errors) x.tcb (again x.tcb x.context) (f x.tcb x.context h)
      expired false = too_many_big
  t2_lined phase a false running now again f t2 x h = settled (x.has_expired || is_owed x.tcb x.context)
    where
      goes : (b : Bool) → EndLined avoids (after_timers phase (abort_or_send_if b x.tcb x.context))
      goes true = abort_lined avoids (user_initiated_abort (codes "Too many retransmissions")) (OnAborted TooManyRetries (codes "Too many retransmissions")) x.tcb x.context h
      goes false = (big_sent avoids false (new_packet x.context.options x.tcb) x.tcb x.context h, a _ _)

      settled : (b : Bool) → EndLined avoids (after_timers phase (after_ticks_if b x.tcb x.context))
      settled true = goes (is_exhausted x.context.errors)
      settled false = (h, a _ _)

  -- T1-cookie and T1-init
  ended_lined : (new : Timer) (cookie : List ℕ) (b : Bool) (t : Tcb) (c : Context P) → Big avoids c → EndLined avoids (after_timers (CookieEchoed new cookie) (abort_if b t c))
  ended_lined new cookie true t c h = abort_lined avoids (user_initiated_abort (codes "Too many retransmissions")) (OnAborted TooManyRetries (codes "Too many retransmissions")) t c h
  ended_lined new cookie false t c h = (h, tt)

  waits_lined : (new : Timer) (cookie : List ℕ) (b : Bool) (t : Tcb) (c : Context P) → Big avoids c → EndLined avoids (after_timers (CookieEchoed new cookie) (waits_unless b t c))
  waits_lined new cookie true t c h = ended_lined new cookie (is_exhausted c.errors) t c h
  waits_lined new cookie false t c h = (h, tt)

  big_with_cookie : (b : Bool) (x : Ticking P) → Big avoids x.context → Big avoids (t3_with_cookie b x).context
  big_with_cookie true x h = big_t3 (is_due x.context.now x.tcb.sender.t3) x h
    where
      big_t3 : (b : Bool) (x : Ticking P) → Big avoids x.context → Big avoids (t3_if b x).context
      big_t3 true x h = h
      big_t3 false x h = h
  big_with_cookie false x h = h

  t1_lined : (new : Timer) (cookie : List ℕ) (b running : Bool) (t1 : Timer) (x : Ticking P) → Big avoids x.context → EndLined avoids (after_timers (CookieEchoed new cookie) (t1_if b t1 cookie x))
  t1_lined new cookie true running t1 x h =
      let z : Ticking P = t3_with_cookie x.context.options.avoid_stalls x in expired (is_running (expire x.context.now t1)) z (big_with_cookie x.context.options.avoid_stalls x h)
    where
      expired : (b : Bool) (z : Ticking P) → Big avoids z.context → EndLined avoids (after_timers (CookieEchoed new cookie) (t1_expired b cookie z.tcb z.context))
      expired true z h =
          let y : AfterSending P = send_cookie cookie z.tcb z.context in
          ended_lined new cookie (is_exhausted y.context.errors) y.tcb y.context (big_cookie avoids cookie z.tcb z.context h)
      expired false z h = (h, tt)
  t1_lined new cookie false running t1 x h = waits_lined new cookie x.has_expired x.tcb x.context h

  init_lined : (b : Bool) (tag first : ℕ) (t1 new : Timer) (c : Context P) → Big avoids c → EndLined avoids (after_init_timer tag first new (init_if b tag first t1 c))
  init_lined true tag first t1 new c h = expired (is_running (expire c.now t1))
    where
      expired : (b : Bool) → EndLined avoids (after_init_timer tag first new (init_expired b tag first c))
      expired true = (big_emitted avoids _ c h, tt)
      expired false = (h, tt)
  init_lined false tag first t1 new c h = (h, tt)

  tick_open_lined : (phase : Phase) (t : Tcb) (c : Context P) → Going avoids phase t c → Lined avoids (Open phase t) c → EndLined avoids (tick_open phase t c)
  tick_open_lined (CookieEchoed t1 cookie) t c h l = t1_lined (expire c.now t1) cookie (is_due c.now t1) true t1 (tick_ack (ticking t c)) l.0
  tick_open_lined Established t c h l = after_ticks_lined Established refl t c h l
  tick_open_lined ShutdownPending t c h l = after_ticks_lined ShutdownPending refl t c h l
  tick_open_lined (ShutdownSent t2) t c h l =
      t2_lined (ShutdownSent (expire c.now t2)) (λ kept q. tt) (is_due c.now t2) true c.now send_shutdown (λ u d k. big_chunk avoids _ u d k) t2 (tick_timers t c) (quiet_ticks (ShutdownSent t2) t c l).0
  tick_open_lined ShutdownReceived t c h l = after_ticks_lined ShutdownReceived refl t c h l
  tick_open_lined (ShutdownAckSent t2) t c h l =
      t2_lined (ShutdownAckSent (expire c.now t2)) (λ kept q. tt) (is_due c.now t2) true c.now send_shutdown_ack (λ u d k. big_chunk avoids _ u d k) t2 (tick_timers t c) (quiet_ticks (ShutdownAckSent t2) t c l).0

  tick_lined : (s : State) (c : Context P) → StateHolds avoids s c.options c.heartbeats → Lined avoids s c → EndLined avoids (tick_in s c)
  tick_lined Closed c h l = l
  tick_lined (CookieWait tag first t1) c h l = init_lined (is_due c.now t1) tag first t1 (expire c.now t1) c l.0
  tick_lined (Open phase t) c h l = tick_open_lined phase t c h l

  pub advance_lined : (b : Bool) (now : ℕ) (s : EndpointState P) → EndHolds avoids s → EndLined avoids s → EndLined avoids (advance_unless b now s)
  advance_lined true now s h l = l
  advance_lined false now s h l = tick_lined s.state (record s.context { now = now }) h l

  -- ---- opening

  pub connect_lined : (st : State) (s : Endpoint P) → EndLined avoids s.endpoint_state → EndLined avoids (connect_in st s).endpoint_state
  connect_lined Closed s l = (big_emitted avoids _ s.endpoint_state.context l.0, tt)
  connect_lined (CookieWait tag first t1) s l = l
  connect_lined (Open phase t) s l = l

  init_open_lined : (phase : Phase) (i : InitTree) (t : Tcb) (s : Endpoint P) → EndLined avoids s.endpoint_state → EndLined avoids (on_init_open phase i t s).endpoint_state
  init_open_lined (CookieEchoed t1 cookie) i t s l = out_lined avoids _ s.endpoint_state.state s.endpoint_state.context l
  init_open_lined Established i t s l = out_lined avoids _ s.endpoint_state.state s.endpoint_state.context l
  init_open_lined ShutdownPending i t s l = out_lined avoids _ s.endpoint_state.state s.endpoint_state.context l
  init_open_lined (ShutdownSent t2) i t s l = out_lined avoids _ s.endpoint_state.state s.endpoint_state.context l
  init_open_lined ShutdownReceived i t s l = out_lined avoids _ s.endpoint_state.state s.endpoint_state.context l
  init_open_lined (ShutdownAckSent t2) i t s l = out_lined avoids _ s.endpoint_state.state s.endpoint_state.context l

  pub init_is_lined : (st : State) (i : InitTree) (s : Endpoint P) → EndLined avoids s.endpoint_state → EndLined avoids (on_init_in st i s).endpoint_state
  init_is_lined Closed i s l = out_lined avoids _ s.endpoint_state.state s.endpoint_state.context l
  init_is_lined (CookieWait tag first t1) i s l = out_lined avoids _ s.endpoint_state.state s.endpoint_state.context l
  init_is_lined (Open phase t) i s l = init_open_lined phase i t s l

  echo_lined : (i : InitTree) (o : Option (List ℕ)) (tag first : ℕ) (s : Endpoint P) → Big avoids s.endpoint_state.context → EndLined avoids (echo_or_abort i o tag first s).endpoint_state
  echo_lined i None tag first s h = (big_emitted avoids _ s.endpoint_state.context h, tt)
  echo_lined i (Some cookie) tag first s h =
      let c : Context P = s.endpoint_state.context in
      let k = agreed_by c.options i in
      let d : Context P = record c { peer = maker cookie; last_tag = tag; queue = queue_anew k.message_interleaving c.queue } in
      (big_cookie avoids cookie (tcb c.options _ i.a_rwnd k) d h, tt)

  pub init_ack_lined : (st : State) (i : InitTree) (s : Endpoint P) → EndLined avoids s.endpoint_state → EndLined avoids (on_init_ack_in st i s).endpoint_state
  init_ack_lined Closed i s l = l
  init_ack_lined (CookieWait tag first t1) i s l = echo_lined i (cookie_in i.parameters) tag first s l.0
  init_ack_lined (Open phase t) i s l = l

  pub cookie_ack_lined : (phase : Phase) (t : Tcb) (c : Context P) → Going avoids phase t c → Lined avoids (Open phase t) c → EndLined avoids (on_cookie_ack phase t c)
  cookie_ack_lined (CookieEchoed t1 cookie) t c h l = buffered_lined avoids Established t (enter_connected c) l.0 (enters avoids false c h.0, (tt, h.1.1))
  cookie_ack_lined Established t c h l = l
  cookie_ack_lined ShutdownPending t c h l = l
  cookie_ack_lined (ShutdownSent t2) t c h l = l
  cookie_ack_lined ShutdownReceived t c h l = l
  cookie_ack_lined (ShutdownAckSent t2) t c h l = l

  -- a COOKIE ACK goes out with what may be sent
  acked_lined : (phase : Phase) → is_before_cookie_ack phase ≡ false → (tag : ℕ) (t : Tcb) (c : Context P) → HasLimits avoids c.options → WindowsHaveRoom t.sender.windows → Big avoids c → EndLined avoids (open_with phase (cookie_ack tag t c))
  acked_lined phase e tag t c o w b =
      let p : PacketDraft = record (packet_to tag c.options.mtu) { is_summed = not (zero_checksum_enabled t.capabilities) } in
      let q : PacketDraft = add cookie_ack_chunk p in
      let m = o.mtu_least in
      let l : 44 ≤ q.limit = subst (λ (n : ℕ). 44 ≤ n) (sym (limit_added cookie_ack_chunk p)) (let k : 44 ≤ c.options.mtu = omega (arith, m) in k) in
      subst (λ (a : Bool). EndLined avoids (open_with phase (send_with a q t c))) e (sent_lined avoids phase q t c b l w)

  opens_lined : (resets : Bool) (k : Cookie) (tie : ℕ) (c : Context P) → HasLimits avoids c.options → Big avoids c → EndLined avoids (anew resets k tie c)
  opens_lined resets k tie c o b =
      let d : Context P = record c { queue = queue_for resets (negotiate c.options k.peer_capabilities).message_interleaving c.queue; last_tag = k.my_tag } in
      let n = new_block avoids c.options (identity_of k tie) (min k.a_rwnd c.options.max_send_buffer_size) (negotiate c.options k.peer_capabilities) o in
      acked_lined Established refl k.peer_tag (tcb_by c.options k tie) (enter_connected d) o n.sender.windows b

  maintains_lined : (k : Cookie) (phase : Phase) (t : Tcb) (c : Context P) → Going avoids phase t c → Lined avoids (Open phase t) c → EndLined avoids (maintain_existing k phase t c)
  maintains_lined k (CookieEchoed t1 cookie) t c h l = acked_lined Established refl k.peer_tag t (enter_connected c) h.0.options h.1.1.sender.windows l.0
  maintains_lined k Established t c h l = acked_lined Established refl k.peer_tag t c h.0.options h.1.1.sender.windows l.0
  maintains_lined k ShutdownPending t c h l = acked_lined ShutdownPending refl k.peer_tag t c h.0.options h.1.1.sender.windows l.0
  maintains_lined k (ShutdownSent t2) t c h l = acked_lined (ShutdownSent t2) refl k.peer_tag t c h.0.options h.1.1.sender.windows l.0
  maintains_lined k ShutdownReceived t c h l = acked_lined ShutdownReceived refl k.peer_tag t c h.0.options h.1.1.sender.windows l.0
  maintains_lined k (ShutdownAckSent t2) t c h l = acked_lined (ShutdownAckSent t2) refl k.peer_tag t c h.0.options h.1.1.sender.windows l.0

  maintains_in_lined : (k : Cookie) (s : State) (c : Context P) → StateHolds avoids s c.options c.heartbeats → Lined avoids s c → EndLined avoids (maintain_existing_in k (record { state = s; context = c }))
  maintains_in_lined k Closed c h l = l
  maintains_in_lined k (CookieWait tag first t1) c h l = l
  maintains_in_lined k (Open phase t) c h l = maintains_lined k phase t c h l

  restarts_lined : (phase : Phase) (t : Tcb) (k : Cookie) (s : Endpoint P) → HasLimits avoids s.endpoint_state.context.options → EndLined avoids s.endpoint_state → EndLined avoids (restarts_in phase t k s).endpoint_state
  restarts_lined (CookieEchoed t1 cookie) t k s o l = opens_lined true k _ (restarted s.endpoint_state.context) o l.0
  restarts_lined Established t k s o l = opens_lined true k _ (restarted s.endpoint_state.context) o l.0
  restarts_lined ShutdownPending t k s o l = opens_lined true k _ (restarted s.endpoint_state.context) o l.0
  restarts_lined (ShutdownSent t2) t k s o l = opens_lined true k _ (restarted s.endpoint_state.context) o l.0
  restarts_lined ShutdownReceived t k s o l = opens_lined true k _ (restarted s.endpoint_state.context) o l.0
  restarts_lined (ShutdownAckSent t2) t k s o l = out_lined avoids _ s.endpoint_state.state s.endpoint_state.context l

  restart_lined : (st : State) (k : Cookie) (s : Endpoint P) → HasLimits avoids s.endpoint_state.context.options → EndLined avoids s.endpoint_state
      → EndLined avoids (let e : Endpoint P = elim st [ Closed ↦ s | CookieWait tag first t1 ↦ s | Open phase t ↦ restarts_in phase t k s ] in e).endpoint_state
  restart_lined Closed k s o l = l
  restart_lined (CookieWait tag first t1) k s o l = l
  restart_lined (Open phase t) k s o l = restarts_lined phase t k s o l

  resolved_lined : (r : CookieResolution) (k : Cookie) (s : Endpoint P) → HasLimits avoids s.endpoint_state.context.options → EndHolds avoids s.endpoint_state → EndLined avoids s.endpoint_state → EndLined avoids (on_resolution r k s).endpoint_state
  resolved_lined EstablishNew k s o h l = opens_lined s.endpoint_state.context.options.avoid_stalls k _ s.endpoint_state.context o l.0
  resolved_lined RestartDetected k s o h l = restart_lined s.endpoint_state.state k s o l
  resolved_lined SimultaneousInit k s o h l = opens_lined true k _ s.endpoint_state.context o l.0
  resolved_lined MaintainExisting k s o h l = maintains_in_lined k s.endpoint_state.state s.endpoint_state.context h l
  resolved_lined Discard k s o h l = l
  resolved_lined InvalidTag k s o h l = l

  cookie_unless_lined : (b : Bool) (tag : ℕ) (k : Cookie) (s : Endpoint P) → EndHolds avoids s.endpoint_state → EndLined avoids s.endpoint_state
      → EndLined avoids (on_cookie_unless b tag k s).endpoint_state
  cookie_unless_lined true tag k s h l = out_lined avoids _ s.endpoint_state.state s.endpoint_state.context l
  cookie_unless_lined false tag k s h l =
      resolved_lined (resolve_cookie s.endpoint_state.context.options.avoid_stalls tag k s.endpoint_state.state) k s (beside_in avoids s.endpoint_state.state s.endpoint_state.context h).options h l

  read_lined : (tag : ℕ) (r : Result Cookie StateCookieError) (s : Endpoint P) → EndHolds avoids s.endpoint_state → EndLined avoids s.endpoint_state → EndLined avoids (on_read_cookie tag r s).endpoint_state
  read_lined tag (Ok k) s h l = cookie_unless_lined (is_spent_at k s.endpoint_state) tag k s h l
  read_lined tag (Err fault) s h l = l

  pub cookie_echo_lined : (tag : ℕ) (cookie : List ℕ) (s : Endpoint P) → EndHolds avoids s.endpoint_state → EndLined avoids s.endpoint_state → EndLined avoids (on_cookie_echo tag cookie s).endpoint_state
  cookie_echo_lined tag cookie s h l = read_lined tag (read_cookie cookie) s h l
