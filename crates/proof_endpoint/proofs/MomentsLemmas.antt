-- Before the moment that `poll_timeout` names no timer is due.
use Rattle.std.proofs.Common.{◌≡◌, ℕ, ◌<◌, ◌≤◌, ◌&&◌, nat_le, min, Bool, true, false, if◌then◌else◌, Option, Some, None, refl, ap, ◌∙◌, arith}
use Rattle.std.proofs.lemmas.Bool.{lt-ltb, le-ltb, lt-leb}
use Rattle.sctp_state.specs.Timer.{Timer, due_by, is_due, moment_of, next_expiry, expire_once, expire}
use Rattle.spec_endpoint.specs.Association.{Tcb, Phase, CookieEchoed, Established, ShutdownPending, ShutdownSent, ShutdownReceived, ShutdownAckSent, State, Closed, CookieWait, Open, Context, EndpointState, open_as}
use Rattle.sctp_rx.specs.DataTracker.{is_ack_due}
use Rattle.spec_endpoint.specs.Sending.{is_before_cookie_ack}
use Rattle.spec_endpoint.specs.Shutdown.{send_shutdown, send_shutdown_ack}
use Rattle.spec_endpoint.specs.Timers.{Ticking, ticking, tick_ack, t3_if, tick_t3, tick_interval, tick_timeout, requests_if, tick_requests, tick_timers, after_timers, sends_owed, moment_if, first_owed, owed_moment, is_owed, after_ticks_if, after_ticks, t2_if, tick_t2, after_init_timer, init_if, tick_init, tick_open, tick_in, advance_unless, advance, running_expiry, phase_expiry, timeout_in, poll_timeout}
use Rattle.spec_endpoint.specs.Moments.{at_moment, is_cookie_echoed}

not_due_by : (now : ℕ) (o : Option ℕ) → now < moment_of o → due_by o now ≡ false
not_due_by now None h = refl
not_due_by now (Some moment) h = lt-leb moment now h

not_due : (now : ℕ) (t : Timer) → now < next_expiry t → is_due now t ≡ false
not_due now t h = not_due_by now t.due h

expire_is : (b : Bool) (t : Timer) → b ≡ false → (if b then expire_once t else t) ≡ t
expire_is b t e = rw e refl

same_timer : (now : ℕ) (t : Timer) → now < next_expiry t → expire now t ≡ t
same_timer now t h = expire_is (is_due now t) t (not_due now t h)

-- no timer of a control block is due, nor one of heartbeats
record Waits {P : Type 0} (t : Tcb) (c : Context P) : Type 0 where
  pub t3 : is_due c.now t.sender.t3 ≡ false
  pub delay : is_due c.now t.tracker.tracker.delay ≡ false
  pub interval : is_due c.now c.heartbeats.interval ≡ false
  pub timeout : is_due c.now c.heartbeats.timeout ≡ false
  pub requests : is_due c.now t.requests.timer ≡ false
  pub owed : is_owed t c ≡ false

moment_later : (b : Bool) (m n : ℕ) → m ≤ n → moment_if b m ≤ moment_if b n
moment_later true m n h = h
moment_later false m n h = omega arith

not_owed_by : (sends : Bool) (moment now : ℕ) → now < moment_if sends moment → (sends && nat_le moment now) ≡ false
not_owed_by true moment now h = lt-leb moment now h
not_owed_by false moment now h = refl

module _ {P : Type 0} where
  waits : (t : Tcb) (c : Context P) → c.now < running_expiry t c → Waits t c
  waits t c h = record {
    t3 = not_due c.now t.sender.t3 (omega (arith, h));
    delay = not_due c.now t.tracker.tracker.delay (omega (arith, h));
    interval = not_due c.now c.heartbeats.interval (omega (arith, h));
    timeout = not_due c.now c.heartbeats.timeout (omega (arith, h));
    requests = not_due c.now t.requests.timer (omega (arith, h));
    owed = not_owed_by (sends_owed c) (first_owed t c) c.now (omega (arith, h));
  }

  same_ack : (t : Tcb) (c : Context P) → Waits t c → tick_ack (ticking t c) ≡ ticking t c
  same_ack t c w = rw w.delay refl

  same_t3 : (t : Tcb) (c : Context P) → Waits t c → tick_t3 (ticking t c) ≡ ticking t c
  same_t3 t c w = ap (λ (b : Bool). t3_if b (ticking t c)) w.t3

  same_interval : (t : Tcb) (c : Context P) → Waits t c → tick_interval (ticking t c) ≡ ticking t c
  same_interval t c w = rw w.interval refl

  same_timeout : (t : Tcb) (c : Context P) → Waits t c → tick_timeout (ticking t c) ≡ ticking t c
  same_timeout t c w = rw w.timeout refl

  same_requests : (t : Tcb) (c : Context P) → Waits t c → tick_requests (ticking t c) ≡ ticking t c
  same_requests t c w = ap (λ (b : Bool). requests_if b (ticking t c)) w.requests

  same_ticked : (t : Tcb) (c : Context P) → Waits t c → tick_timers t c ≡ ticking t c
  unfolding tick_timers
  same_ticked t c w =
      ap (λ (x : Ticking P). tick_requests (tick_timeout (tick_interval (tick_t3 x)))) (same_ack t c w)
      ∙ (ap (λ (x : Ticking P). tick_requests (tick_timeout (tick_interval x))) (same_t3 t c w)
      ∙ (ap (λ (x : Ticking P). tick_requests (tick_timeout x)) (same_interval t c w)
      ∙ (ap (λ (x : Ticking P). tick_requests x) (same_timeout t c w) ∙ same_requests t c w)))

  same_settled : (phase : Phase) (t : Tcb) (c : Context P) → c.now < running_expiry t c → after_timers phase (after_ticks (tick_timers t c)) ≡ open_as phase t c
  same_settled phase t c h =
      let w : Waits t c = waits t c h in
      ap (λ (x : Ticking P). after_timers phase (after_ticks x)) (same_ticked t c w) ∙ ap (λ (b : Bool). after_timers phase (after_ticks_if b t c)) w.owed

  -- T2-shutdown isn't due either
  same_t2 : (phase : Timer → Phase) (again : Tcb → Context P → Context P) (t2 : Timer) (t : Tcb) (c : Context P)
      → c.now < min (next_expiry t2) (running_expiry t c)
      → after_timers (phase (expire c.now t2)) (tick_t2 c.now again t2 (tick_timers t c)) ≡ open_as (phase t2) t c
  same_t2 phase again t2 t c h =
      let own : c.now < next_expiry t2 = omega (arith, h) in
      let others : c.now < running_expiry t c = omega (arith, h) in
      let w : Waits t c = waits t c others in
      ap (λ (x : Ticking P). after_timers (phase (expire c.now t2)) (tick_t2 c.now again t2 x)) (same_ticked t c w)
      ∙ (ap (λ (b : Bool). after_timers (phase (expire c.now t2)) (t2_if b c.now again t2 (ticking t c))) (not_due c.now t2 own)
      ∙ (ap (λ (b : Bool). after_timers (phase (expire c.now t2)) (after_ticks_if b t c)) w.owed
      ∙ ap (λ (u : Timer). open_as (phase u) t c) (same_timer c.now t2 own)))

  same_open : (phase : Phase) (t : Tcb) (c : Context P) → is_before_cookie_ack phase ≡ false → c.now < phase_expiry phase t c → tick_open phase t c ≡ open_as phase t c
  same_open (CookieEchoed t1 cookie) t c e h = absurd (cc)
  same_open Established t c e h = same_settled Established t c h
  same_open ShutdownPending t c e h = same_settled ShutdownPending t c h
  same_open (ShutdownSent t2) t c e h = same_t2 (λ (u : Timer). ShutdownSent u) send_shutdown t2 t c h
  same_open ShutdownReceived t c e h = same_settled ShutdownReceived t c h
  same_open (ShutdownAckSent t2) t c e h = same_t2 (λ (u : Timer). ShutdownAckSent u) send_shutdown_ack t2 t c h

  same_waiting : (tag first : ℕ) (t1 : Timer) (c : Context P) → c.now < next_expiry t1
      → after_init_timer tag first (expire c.now t1) (tick_init tag first t1 c) ≡ record { state = CookieWait tag first t1; context = c }
  same_waiting tag first t1 c h =
      ap (λ (b : Bool). after_init_timer tag first (expire c.now t1) (init_if b tag first t1 c)) (not_due c.now t1 h)
      ∙ ap (λ (u : Timer). record { state = CookieWait tag first u; context = c }) (same_timer c.now t1 h)

  -- later nothing is owed sooner
  owed_later : (t : Tcb) (was : ℕ) (c : Context P) → was ≤ c.now → owed_moment t (record c { now = was }) ≤ owed_moment t c
  owed_later t was c least =
      let ack = moment_later (is_ack_due false t.tracker.tracker.ack) was c.now least in
      moment_later (sends_owed c) (first_owed t (record c { now = was })) (first_owed t c) (omega (arith, ack))

  expires_later : (phase : Phase) (t : Tcb) (was : ℕ) (c : Context P) → was ≤ c.now → phase_expiry phase t (record c { now = was }) ≤ phase_expiry phase t c
  expires_later (CookieEchoed t1 cookie) t was c least = omega arith
  expires_later Established t was c least = let o = owed_later t was c least in omega (arith, o)
  expires_later ShutdownPending t was c least = let o = owed_later t was c least in omega (arith, o)
  expires_later (ShutdownSent t2) t was c least = let o = owed_later t was c least in omega (arith, o)
  expires_later ShutdownReceived t was c least = let o = owed_later t was c least in omega (arith, o)
  expires_later (ShutdownAckSent t2) t was c least = let o = owed_later t was c least in omega (arith, o)

  -- the clock at `was` before
  same_in : (st : State) (was : ℕ) (c : Context P) → is_cookie_echoed st ≡ false → was ≤ c.now → c.now < timeout_in st (record c { now = was })
      → tick_in st c ≡ record { state = st; context = c }
  same_in Closed was c e least h = refl
  same_in (CookieWait tag first t1) was c e least h =
      let own : c.now < next_expiry t1 = omega (arith, least, h) in
      same_waiting tag first t1 c own
  same_in (Open phase t) was c e least h =
      let later : phase_expiry phase t (record c { now = was }) ≤ phase_expiry phase t c = expires_later phase t was c least in
      let own : c.now < phase_expiry phase t c = omega (arith, later, least, h) in
      same_open phase t c e own

  pub moves_the_clock : (now : ℕ) (s : EndpointState P) → is_cookie_echoed s.state ≡ false → s.context.now ≤ now → now < poll_timeout s → advance now s ≡ at_moment now s
  moves_the_clock now s e least h =
      ap (λ (b : Bool). advance_unless b now s) (le-ltb now s.context.now least) ∙ same_in s.state s.context.now (record s.context { now = now }) e least h

  pub changes_nothing : (now : ℕ) (s : EndpointState P) → now < s.context.now → advance now s ≡ s
  changes_nothing now s h = ap (λ (b : Bool). advance_unless b now s) (lt-ltb now s.context.now h)
