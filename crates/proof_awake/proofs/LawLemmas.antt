-- The laws of progress.
use Rattle.std.proofs.Common.{not, Bool, List, ◌≡◌, ℕ, ◌≤◌, ◌<◌, ◌⊎◌, inl, inr, true, false, min, max, Option, Some, None, refl, arith, sym, subst}
use Rattle.std.specs.Prelude.{◌==◌, is_some}
use Rattle.rand_core.specs.Stream.{Stream}
use Rattle.sctp_serial.specs.Time.{forever}
use Rattle.sctp_state.specs.Options.{Options, IsValid}
use Rattle.sctp_state.specs.Timer.{Timer, next_expiry, moment_of}
use Rattle.sctp_rx.specs.declared.data_tracker.AckState.{AckState}
use Rattle.sctp_rx.specs.declared.data_tracker.AckState.TheVariants.{Idle, Becoming, Delayed, Immediate}
use Rattle.spec_endpoint.specs.Association.{Tcb, CookieEchoed, Established, ShutdownPending, ShutdownSent, ShutdownReceived, ShutdownAckSent, State, Closed, CookieWait, Open, Heartbeats, Packing, EndpointState, fresh, Context, Phase}
use Rattle.spec_endpoint.specs.Timers.{running_expiry, timeout_in, sends_owed}
use Rattle.spec_endpoint.specs.Calls.{without_first_message, told_if, message_taken_in}
use Rattle.spec_endpoint.specs.Sending.{is_before_cookie_ack, force_ack}
use Rattle.sctp_rx.specs.DataTracker.{is_ack_due}
use Rattle.sctp_tx_outstanding.specs.Forward.{is_forward_due}
use Rattle.sctp_tx_outstanding.specs.Item.{Item}
use Rattle.proof_awake.specs.Awake.{Runs, is_none, is_delayed, AckIsTimed, BeatsOn, BlockIsAwake, WaitsForItems, StateIsAwake, IsAwake}
use Rattle.proof_awake.specs.Invariant.{HasLimits, HasItems, StateHolds, IsTimed}
use Rattle.proof_awake.specs.Laws.{EachCallKeepsTimed, IsInTime, BlockIsInTime, StateIsInTime, Rests, ShutIsQuiet, StateIsQuiet, OnlyQuietEndsNameNoMoment, DuePointsHaveAMoment, DueAcknowledgementsHaveAMoment, OpenedWindowsHaveAMoment}
use Rattle.proof_awake.proofs.BlockLemmas.{block_awake}
use Rattle.proof_awake.proofs.InputRowLemmas.{each_stays_timed}

pub valid_times : (o : Options) → IsValid o → HasLimits o.avoid_stalls o
valid_times o h =
    let a = h.times.rto_min in
    let b = h.times.rto_initial in
    let c = h.times.t1_init in
    let d = h.times.t1_cookie in
    let e = h.times.delayed_ack in
    record {
      stalls = refl;
      rto_range = h.times.rto_range;
      rto_min = omega (arith, a);
      rto_initial = omega (arith, b);
      t1_init = omega (arith, c);
      t1_cookie = omega (arith, d);
      delayed_ack = omega (arith, e);
      mtu_least = h.sizes.mtu_least;
      mtu_most = h.sizes.mtu_most;
      cwnd_initial = h.windows.initial_least;
      cwnd_min = h.windows.min_least;
    }

pub new_ends : {P : Type 0} (o : Options) (pack : Packing P) (draws : Stream) → IsValid o → IsTimed (fresh o pack draws).endpoint_state
new_ends o pack draws h = record { options = valid_times o h; restarts = refl; interval = tt }

pub calls_keep : EachCallKeepsTimed
calls_keep call s e h = each_stays_timed call s e h

waits_awake : (avoids : Bool) (kept : List Item) → HasItems (not avoids) kept → WaitsForItems avoids kept
waits_awake true kept h = tt
waits_awake false kept h = h

state_awake : (avoids : Bool) (s : State) (o : Options) (h : Heartbeats) → StateHolds avoids s o h → StateIsAwake avoids s h
state_awake avoids Closed o h k = tt
state_awake avoids (CookieWait tag first t1) o h k = k.1
state_awake avoids (Open (CookieEchoed t1 cookie) t) o h k = (k.1.0, block_awake false t k.1.1)
state_awake avoids (Open Established t) o h k = (k.0.interval, block_awake false t k.1.1)
state_awake avoids (Open ShutdownPending t) o h k = (waits_awake avoids t.sender.outstanding.items.kept k.1.1.sender.some, block_awake (not avoids) t k.1.1)
state_awake avoids (Open (ShutdownSent t2) t) o h k = (k.1.0, block_awake false t k.1.1)
state_awake avoids (Open ShutdownReceived t) o h k = (waits_awake avoids t.sender.outstanding.items.kept k.1.1.sender.some, block_awake (not avoids) t k.1.1)
state_awake avoids (Open (ShutdownAckSent t2) t) o h k = (k.1.0, block_awake false t k.1.1)

pub awake : {P : Type 0} (s : EndpointState P) → IsTimed s → IsAwake s
awake s h = state_awake s.context.options.avoid_stalls s.state s.context.options s.context.heartbeats h

-- ---- moments

-- a timer that runs, in time, names a moment
named : (t : Timer) → IsInTime t → Runs t → next_expiry t < forever
named t f r = go t.due refl r
  where
    go : (o : Option ℕ) → t.due ≡ o → is_some o ≡ true → moment_of o < forever
    go None e h = absurd (cc)
    go (Some moment) e h = f moment e

unnamed : (t : Timer) → IsInTime t → forever ≤ next_expiry t → Runs t → ⊥
unnamed t f l r = let n = named t f r in omega (arith, n, l)

last : (n now : ℕ) → now < forever → max n now ≡ forever → forever ≤ n
last n now l e = omega (arith, l, e)

module _ {P : Type 0} (t : Tcb) (c : Context P) (k : BlockIsAwake t) (l : forever ≤ running_expiry t c) where
  abbrev h : Heartbeats
  h = c.heartbeats

  items_rest : IsInTime t.sender.t3 → is_none t.sender.outstanding.items.kept ≡ true
  items_rest f = go k.items
    where
      go : (is_none t.sender.outstanding.items.kept ≡ true) ⊎ Runs t.sender.t3 → is_none t.sender.outstanding.items.kept ≡ true
      go (inl z) = z
      go (inr r) = absurd (unnamed t.sender.t3 f (omega (arith, l)) r)

  request_rests : IsInTime t.requests.timer → t.requests.current ≡ None
  request_rests f = go k.request
    where
      go : (t.requests.current ≡ None) ⊎ Runs t.requests.timer → t.requests.current ≡ None
      go (inl z) = z
      go (inr r) = absurd (unnamed t.requests.timer f (omega (arith, l)) r)

  ack_rests : IsInTime t.tracker.tracker.delay → is_delayed t.tracker.tracker.ack ≡ false
  ack_rests f = go t.tracker.tracker.ack k.ack
    where
      go : (a : AckState) → AckIsTimed a t.tracker.tracker.delay → is_delayed a ≡ false
      go Idle r = refl
      go Becoming r = refl
      go Delayed r = absurd (unnamed t.tracker.tracker.delay f (omega (arith, l)) r)
      go Immediate r = refl

  beats_rest : IsInTime h.interval → BeatsOn h.interval → (h.interval.duration == 0) ≡ true
  beats_rest f (inl z) = z
  beats_rest f (inr r) = absurd (unnamed h.interval f (omega (arith, l)) r)

  -- a shutdown that waits for items names a moment
  waits_on : IsInTime t.sender.t3 → is_none t.sender.outstanding.items.kept ≡ false → ⊥
  waits_on f e = let z = items_rest f in cc

  rests : {phase : Phase} → BlockIsInTime phase t h → Rests t
  rests f = record { nothing_kept = items_rest f.t3; no_request = request_rests f.request; no_ack = ack_rests f.delay }

  -- with stalls avoided it may wait for the queue alone
  shut_rests : {phase : Phase} (avoids : Bool) → WaitsForItems avoids t.sender.outstanding.items.kept → BlockIsInTime phase t h → ShutIsQuiet avoids t
  shut_rests true w f = rests f
  shut_rests false w f = absurd (waits_on f.t3 w)

quiet_in : {P : Type 0} (avoids : Bool) (s : State) (c : Context P) → StateIsAwake avoids s c.heartbeats → c.now < forever → StateIsInTime s c.heartbeats → timeout_in s c ≡ forever
    → StateIsQuiet avoids s c.heartbeats
quiet_in avoids Closed c k l f e = tt
quiet_in avoids (CookieWait tag first t1) c k l f e = unnamed t1 f (last (next_expiry t1) c.now l e) k
quiet_in avoids (Open (CookieEchoed t1 cookie) t) c k l f e = absurd (unnamed t1 f.phase_timer (last (next_expiry t1) c.now l e) k.0)
quiet_in avoids (Open Established t) c k l f e =
    let m = last (running_expiry t c) c.now l e in
    (rests t c k.1 m f, beats_rest t c k.1 m f.interval k.0)
quiet_in avoids (Open ShutdownPending t) c k l f e = shut_rests t c k.1 (last (running_expiry t c) c.now l e) avoids k.0 f
quiet_in avoids (Open (ShutdownSent t2) t) c k l f e =
    let m = last (min (next_expiry t2) (running_expiry t c)) c.now l e in
    absurd (unnamed t2 f.phase_timer (omega (arith, m)) k.0)
quiet_in avoids (Open ShutdownReceived t) c k l f e = shut_rests t c k.1 (last (running_expiry t c) c.now l e) avoids k.0 f
quiet_in avoids (Open (ShutdownAckSent t2) t) c k l f e =
    let m = last (min (next_expiry t2) (running_expiry t c)) c.now l e in
    absurd (unnamed t2 f.phase_timer (omega (arith, m)) k.0)

pub quiet : OnlyQuietEndsNameNoMoment
quiet s k l f e = quiet_in s.context.options.avoid_stalls s.state s.context k l f e

-- ---- what is owed

point_named : {P : Type 0} (t : Tcb) (c : Context P) → sends_owed c ≡ true → is_forward_due t.sender.outstanding.items ≡ true → running_expiry t c ≤ c.forward_from
point_named t c sends due = rw (sends, due) (omega arith)

ack_named : {P : Type 0} (t : Tcb) (c : Context P) → sends_owed c ≡ true → is_ack_due false t.tracker.tracker.ack ≡ true → running_expiry t c ≤ c.now
ack_named t c sends due = rw (sends, due) (omega arith)

named_in : {P : Type 0} (moment : ℕ) (phase : Phase) (t : Tcb) (c : Context P) → is_before_cookie_ack phase ≡ false → running_expiry t c ≤ moment
    → timeout_in (Open phase t) c ≤ max moment c.now
named_in moment (CookieEchoed t1 cookie) t c late l = absurd (cc)
named_in moment Established t c late l = omega (arith, l)
named_in moment ShutdownPending t c late l = omega (arith, l)
named_in moment (ShutdownSent t2) t c late l = omega (arith, l)
named_in moment ShutdownReceived t c late l = omega (arith, l)
named_in moment (ShutdownAckSent t2) t c late l = omega (arith, l)

pub points_named : DuePointsHaveAMoment
points_named s phase t is late sends due =
    subst (λ (r : State). timeout_in r s.context ≤ max s.context.forward_from s.context.now) (sym is)
    (named_in s.context.forward_from phase t s.context late (point_named t s.context sends due))

at_once : {P : Type 0} (phase : Phase) (t : Tcb) (c : Context P) → is_before_cookie_ack phase ≡ false → sends_owed c ≡ true → is_ack_due false t.tracker.tracker.ack ≡ true
    → timeout_in (Open phase t) c ≤ c.now
at_once phase t c late sends due = within (timeout_in (Open phase t) c) c.now (named_in c.now phase t c late (ack_named t c sends due))
  where
    within : (n now : ℕ) → n ≤ max now now → n ≤ now
    within n now l = omega (arith, l)

pub acknowledgements_named : DueAcknowledgementsHaveAMoment
acknowledgements_named s phase t is late sends due = subst (λ (r : State). timeout_in r s.context ≤ s.context.now) (sym is) (at_once phase t s.context late sends due)

pub windows_named : OpenedWindowsHaveAMoment
windows_named s phase t is late sends opens =
    let u : Tcb = without_first_message t in
    subst (λ (r : State). timeout_in (message_taken_in s.context.options r) s.context ≤ s.context.now) (sym is)
    (subst (λ (b : Bool). timeout_in (Open phase (told_if b u)) s.context ≤ s.context.now) (sym opens) (at_once phase (force_ack u) s.context late sends refl))
