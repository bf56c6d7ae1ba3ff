-- The walk over the rows: the passing of time.
use Rattle.std.proofs.Common.{◌≡◌, ℕ, nat_lt, Bool, true, false, List, codes, refl, ◌||◌}
use Rattle.rand_core.specs.Stream.{Stream}
use Rattle.sctp_state.specs.declared.api.ErrorKind.TheVariants.{TooManyRetries}
use Rattle.sctp_state.specs.TxErrorCounter.{is_exhausted}
use Rattle.sctp_state.specs.RetransmissionTimeout.{rto}
use Rattle.sctp_state.specs.Timer.{Timer, is_due, is_running, expire}
use Rattle.sctp_state.specs.Events.{OnAborted}
use Rattle.spec_endpoint.specs.Association.{Tcb, Phase, CookieEchoed, Established, ShutdownPending, ShutdownSent, ShutdownReceived, ShutdownAckSent, State, Closed, CookieWait, Open, Context, EndpointState}
use Rattle.spec_endpoint.specs.Packets.{PacketDraft, new_packet}
use Rattle.spec_endpoint.specs.ResetRequests.{lasting, expire_reconfig_timer, clear_deferral, is_unanswered}
use Rattle.spec_endpoint.specs.Sending.{AfterSending, add_request, send_cookie}
use Rattle.spec_endpoint.specs.Shutdown.{send_shutdown, send_shutdown_ack}
use Rattle.spec_endpoint.specs.Heartbeats.{counted_on, heartbeat_chunk, send_heartbeat_if, heartbeat_timeout_if}
use Rattle.spec_endpoint.specs.Timers.{Ticking, tick_ack, t3_if, tick_t3, tick_interval, tick_timeout, request_again, errs_if, reconfig_timeout, requests_if, ticking, tick_timers, TimerOutcome, after_timers, abort_if, abort_if_exhausted, abort_or_send_if, abort_or_send, after_ticks_if, after_ticks, t2_expired, t2_if, tick_t2, waits_unless, t1_expired, t1_if, after_init_timer, init_expired, init_if, tick_open, tick_in, advance_unless, advance, is_owed, t3_with_cookie}
use Rattle.spec_endpoint.specs.Laws.{Call, Advance}
use Rattle.proof_endpoint.specs.Acts.{all_along, EndWithPacket, idle, advances, delay_ends, times_out, beats, times_init, times_cookie, times_request, wakes_request, counts_errors, Preserves}
use Rattle.proof_endpoint.proofs.BundledLemmas.{request_more}
use Rattle.proof_endpoint.proofs.OwnChunksLemmas.{fair_heartbeat}
use Rattle.proof_endpoint.proofs.PacketActsLemmas.{does_out, does_begin_new, does_chunk, does_add_request, does_send_buffered, does_send_cookie}
use Rattle.proof_endpoint.proofs.RowActsLemmas.{placed, OpenActs, does_closed, does_shut_on, does_too_many, does_send_shutdown, does_send_shutdown_ack}
use Rattle.proof_endpoint.proofs.OpeningActsLemmas.{does_send_init}

module _ {P : Type 0} {call : Call} {R : EndWithPacket P → EndWithPacket P → Type 0} (k : Preserves call R) (w : Stream) where
  -- ---- the timers of a control block, in this phase

  module _ (phase : Phase) where
    abbrev Ticks : (x y : Ticking P) → Type 0
    Ticks x y = R (idle (Open phase x.tcb) x.context w) (idle (Open phase y.tcb) y.context w)

    does_tick_ack : (x : Ticking P) → Ticks x (tick_ack x)
    does_tick_ack x = k.time (delay_ends phase x.tcb (idle (Open phase x.tcb) x.context w))

    does_t3_if : (b : Bool) (x : Ticking P) → is_due x.context.now x.tcb.sender.t3 ≡ b → Ticks x (t3_if b x)
    does_t3_if true x due = k.time (times_out phase x.tcb (idle (Open phase x.tcb) x.context w) due)
    does_t3_if false x due = k.same (idle (Open phase x.tcb) x.context w)

    does_beat_if : (b : Bool) (t : Tcb) (c : Context P) → R (idle (Open phase t) c w) (idle (Open phase t) (send_heartbeat_if b t c) w)
    does_beat_if true t c =
        let d : Context P = counted_on c in
        k.through (k.time (beats d.heartbeats (idle (Open phase t) c w))) (does_chunk k (heartbeat_chunk d.heartbeats.counter) phase t d w refl (λ f. fair_heartbeat d.heartbeats.counter))
    does_beat_if false t c = k.same (idle (Open phase t) c w)

    does_unanswered_if : (b : Bool) (t : Tcb) (c : Context P) → R (idle (Open phase t) c w) (idle (Open phase t) (heartbeat_timeout_if b c) w)
    does_unanswered_if true t c =
        let d : Context P = record c { heartbeats = (heartbeat_timeout_if true c).heartbeats } in
        k.through (k.time (beats d.heartbeats (idle (Open phase t) c w))) (k.acknowledging (counts_errors (heartbeat_timeout_if true c).errors (idle (Open phase t) d w)))
    does_unanswered_if false t c = k.same (idle (Open phase t) c w)

    does_request_again : (b : Bool) (x : Ticking P) → Ticks x (request_again b x)
    does_request_again true x = k.same (idle (Open phase x.tcb) x.context w)
    does_request_again false x =
        let c : Context P = x.context in
        let t : Tcb = record x.tcb { requests = lasting (rto x.tcb.rtt) x.tcb.requests } in
        let p : PacketDraft = new_packet c.options t in
        k.through (k.time (times_request t.requests.timer phase x.tcb (idle (Open phase x.tcb) c w)))
        (k.through (does_begin_new k phase t c w)
        (k.through (does_add_request k phase w t.requests.current t c p refl) (does_out k (Open phase t) c w (add_request t.requests.current p) (all_along (request_more t.requests.current p refl)))))

    does_errs_if : (b : Bool) (t : Tcb) (c : Context P) → R (idle (Open phase t) c w) (idle (Open phase t) (errs_if b c) w)
    does_errs_if true t c = k.acknowledging (counts_errors (errs_if true c).errors (idle (Open phase t) c w))
    does_errs_if false t c = k.same (idle (Open phase t) c w)

    does_reconfig_timeout : (x : Ticking P) → Ticks x (reconfig_timeout x)
    does_reconfig_timeout x =
        let is_error : Bool = is_unanswered x.tcb.requests.current in
        let d : Context P = errs_if is_error x.context in
        let u : Tcb = record x.tcb { requests = expire_reconfig_timer x.context.now x.tcb.requests } in
        let v : Tcb = record x.tcb { requests = clear_deferral (expire_reconfig_timer x.context.now x.tcb.requests) } in
        let y : Ticking P = record { tcb = v; context = d; has_expired = true } in
        k.through (k.time (times_request u.requests.timer phase x.tcb (idle (Open phase x.tcb) x.context w)))
        (k.through (k.time (wakes_request phase u (idle (Open phase u) x.context w)))
        (k.through (does_errs_if is_error v x.context) (does_request_again (is_exhausted d.errors) y)))

    does_requests_if : (b : Bool) (x : Ticking P) → Ticks x (requests_if b x)
    does_requests_if true x = does_reconfig_timeout x
    does_requests_if false x = k.same (idle (Open phase x.tcb) x.context w)

    does_ticked : (t : Tcb) (c : Context P) → R (idle (Open phase t) c w) (idle (Open phase (tick_timers t c).tcb) (tick_timers t c).context w)
    unfolding tick_timers
    does_ticked t c =
        let x : Ticking P = tick_ack (ticking t c) in
        let y : Ticking P = tick_t3 x in
        let z : Ticking P = tick_interval y in
        let v : Ticking P = tick_timeout z in
        k.through (does_tick_ack (ticking t c))
        (k.through (does_t3_if (is_due x.context.now x.tcb.sender.t3) x refl)
        (k.through (does_beat_if (is_due y.context.now y.context.heartbeats.interval) y.tcb y.context)
        (k.through (does_unanswered_if (is_due z.context.now z.context.heartbeats.timeout) z.tcb z.context)
        (does_requests_if (is_due v.context.now v.tcb.requests.timer) v))))

    -- ---- what an expiry leads to at last

    abbrev Leaves : EndWithPacket P → TimerOutcome P → Type 0
    Leaves m x = R m (placed (after_timers phase x) w)

    does_ended_if : (b : Bool) (t : Tcb) (c : Context P) → Leaves (idle (Open phase t) c w) (abort_if b t c)
    does_ended_if true t c = does_too_many k w phase t c
    does_ended_if false t c = k.same (idle (Open phase t) c w)

    does_abort_if_exhausted : (t : Tcb) (c : Context P) → Leaves (idle (Open phase t) c w) (abort_if_exhausted t c)
    does_abort_if_exhausted t c = does_ended_if (is_exhausted c.errors) t c

    does_or_sent : (b : Bool) (t : Tcb) (c : Context P) → Leaves (idle (Open phase t) c w) (abort_or_send_if b t c)
    does_or_sent true t c = does_too_many k w phase t c
    does_or_sent false t c = does_send_buffered k phase w false t c

    does_goes_on : (t : Tcb) (c : Context P) → Leaves (idle (Open phase t) c w) (abort_or_send t c)
    does_goes_on t c = does_or_sent (is_exhausted c.errors) t c

    does_settled_if : (b : Bool) (t : Tcb) (c : Context P) → Leaves (idle (Open phase t) c w) (after_ticks_if b t c)
    does_settled_if true t c = does_goes_on t c
    does_settled_if false t c = k.same (idle (Open phase t) c w)

    does_settled : (x : Ticking P) → Leaves (idle (Open phase x.tcb) x.context w) (after_ticks x)
    does_settled x = does_settled_if (x.has_expired || is_owed x.tcb x.context) x.tcb x.context

    -- the timers, and then this
    does_ticked_settled : (t : Tcb) (c : Context P) → Leaves (idle (Open phase t) c w) (after_ticks (tick_timers t c))
    does_ticked_settled t c = k.through (does_ticked t c) (does_settled (tick_timers t c))

    -- ---- T2-shutdown

    abbrev Again : (Tcb → Context P → Context P) → Type 0
    Again again = (t : Tcb) (c : Context P) → R (idle (Open phase t) c w) (idle (Open phase t) (again t c) w)

    does_t2_expired : (b : Bool) (again : Tcb → Context P → Context P) → Again again → (t : Tcb) (c : Context P)
        → Leaves (idle (Open phase t) c w) (t2_expired b again t c)
    does_t2_expired true again h t c = k.through (h t c) (does_goes_on t (again t c))
    does_t2_expired false again h t c = does_too_many k w phase t c

    does_t2_if : (b : Bool) (now : ℕ) (again : Tcb → Context P → Context P) → Again again → (t2 : Timer) (x : Ticking P)
        → Leaves (idle (Open phase x.tcb) x.context w) (t2_if b now again t2 x)
    does_t2_if true now again h t2 x = does_t2_expired (is_running (expire now t2)) again h x.tcb x.context
    does_t2_if false now again h t2 x = does_settled x

    does_t2 : (now : ℕ) (again : Tcb → Context P → Context P) → Again again → (t2 : Timer) (t : Tcb) (c : Context P)
        → Leaves (idle (Open phase t) c w) (tick_t2 now again t2 (tick_timers t c))
    does_t2 now again h t2 t c = k.through (does_ticked t c) (does_t2_if (is_due now t2) now again h t2 (tick_timers t c))

  -- ---- T1-cookie

  module _ (new : Timer) (cookie : List ℕ) where
    does_waits_unless : (b : Bool) (t : Tcb) (c : Context P) → Leaves (CookieEchoed new cookie) (idle (Open (CookieEchoed new cookie) t) c w) (waits_unless b t c)
    does_waits_unless true t c = does_abort_if_exhausted (CookieEchoed new cookie) t c
    does_waits_unless false t c = k.same (idle (Open (CookieEchoed new cookie) t) c w)

    does_t1_expired : (b : Bool) (t : Tcb) (c : Context P)
        → Leaves (CookieEchoed new cookie) (idle (Open (CookieEchoed new cookie) t) c w) (t1_expired b cookie t c)
    does_t1_expired true t c =
        let x : AfterSending P = send_cookie cookie t c in
        k.through (does_send_cookie k new cookie w t c) (does_abort_if_exhausted (CookieEchoed new cookie) x.tcb x.context)
    does_t1_expired false t c =
        does_closed k w (OnAborted TooManyRetries (codes "No COOKIE_ACK received")) (Open (CookieEchoed new cookie) t) c refl refl

    does_t3_with : (b : Bool) (x : Ticking P) → Ticks (CookieEchoed new cookie) x (t3_with_cookie b x)
    does_t3_with true x = does_t3_if (CookieEchoed new cookie) (is_due x.context.now x.tcb.sender.t3) x refl
    does_t3_with false x = k.same (idle (Open (CookieEchoed new cookie) x.tcb) x.context w)

    does_t1_if : (b : Bool) (t1 : Timer) (x : Ticking P)
        → Leaves (CookieEchoed new cookie) (idle (Open (CookieEchoed new cookie) x.tcb) x.context w) (t1_if b t1 cookie x)
    does_t1_if true t1 x =
        let y : Ticking P = t3_with_cookie x.context.options.avoid_stalls x in
        k.through (does_t3_with x.context.options.avoid_stalls x) (does_t1_expired (is_running (expire x.context.now t1)) y.tcb y.context)
    does_t1_if false t1 x = does_waits_unless x.has_expired x.tcb x.context

  -- ---- T1-init

  does_init_expired : (b : Bool) (tag first : ℕ) (t1 : Timer) (c : Context P)
      → R (idle (CookieWait tag first t1) c w) (placed (after_init_timer tag first t1 (init_expired b tag first c)) w)
  does_init_expired true tag first t1 c = does_send_init k tag first t1 c w
  does_init_expired false tag first t1 c =
      does_closed k w (OnAborted TooManyRetries (codes "No INIT_ACK received")) (CookieWait tag first t1) c refl refl

  does_init_if : (b : Bool) (tag first : ℕ) (old new : Timer) (c : Context P)
      → R (idle (CookieWait tag first new) c w) (placed (after_init_timer tag first new (init_if b tag first old c)) w)
  does_init_if true tag first old new c = does_init_expired (is_running (expire c.now old)) tag first new c
  does_init_if false tag first old new c = k.same (idle (CookieWait tag first new) c w)

  -- ---- by state

  does_tick_open : OpenActs R w tick_open
  does_tick_open (CookieEchoed t1 cookie) t c =
      let new : Timer = expire c.now t1 in
      let x : Ticking P = tick_ack (ticking t c) in
      k.through (k.time (times_cookie t1 new cookie t (idle (Open (CookieEchoed t1 cookie) t) c w)))
      (k.through (does_tick_ack (CookieEchoed new cookie) (ticking t c)) (does_t1_if new cookie (is_due c.now t1) t1 x))
  does_tick_open Established t c = does_ticked_settled Established t c
  does_tick_open ShutdownPending t c = does_ticked_settled ShutdownPending t c
  does_tick_open (ShutdownSent t2) t c =
      let next : Phase = ShutdownSent (expire c.now t2) in
      k.through (does_shut_on k w (ShutdownSent t2) next t c refl refl) (does_t2 next c.now send_shutdown (does_send_shutdown k w next) t2 t c)
  does_tick_open ShutdownReceived t c = does_ticked_settled ShutdownReceived t c
  does_tick_open (ShutdownAckSent t2) t c =
      let next : Phase = ShutdownAckSent (expire c.now t2) in
      k.through (does_shut_on k w (ShutdownAckSent t2) next t c refl refl) (does_t2 next c.now send_shutdown_ack (does_send_shutdown_ack k w next) t2 t c)

  does_tick : (s : State) (c : Context P) → R (idle s c w) (placed (tick_in s c) w)
  does_tick Closed c = k.same (idle Closed c w)
  does_tick (CookieWait tag first t1) c =
      let new : Timer = expire c.now t1 in
      k.through (k.time (times_init tag first t1 new (idle (CookieWait tag first t1) c w))) (does_init_if (is_due c.now t1) tag first t1 new c)
  does_tick (Open phase t) c = does_tick_open phase t c

  does_advance_if : (b : Bool) (now : ℕ) (s : EndpointState P) → call ≡ Advance now → nat_lt now s.context.now ≡ b
      → R (placed s w) (placed (advance_unless b now s) w)
  does_advance_if true now s is back = k.same (placed s w)
  does_advance_if false now s is back = k.through (k.time (advances now (placed s w) is back)) (does_tick s.state (record s.context { now = now }))

  pub does_advance : (now : ℕ) (s : EndpointState P) → call ≡ Advance now → R (placed s w) (placed (advance now s) w)
  does_advance now s is = does_advance_if (nat_lt now s.context.now) now s is refl
