-- Progress, as laws of the table: between calls an end that owes something has a timer that runs.
use Rattle.std.specs.Prelude.{◌≡◌, ℕ, ◌<◌, ◌≤◌, ◌==◌, max, Bool, true, false, Some, None, List}
use Rattle.rand_core.specs.Stream.{Stream}
use Rattle.sctp_serial.specs.Time.{forever}
use Rattle.sctp_state.specs.Options.{Options, IsValid}
use Rattle.sctp_state.specs.Timer.{Timer}
use Rattle.spec_endpoint.specs.Association.{Tcb, Phase, CookieEchoed, Established, ShutdownPending, ShutdownSent, ShutdownReceived, ShutdownAckSent, State, Closed, CookieWait, Open, Heartbeats, Packing, EndpointState, Endpoint, fresh}
use Rattle.sctp_tx_outstanding.specs.Forward.{is_forward_due}
use Rattle.spec_endpoint.specs.Sending.{is_before_cookie_ack}
use Rattle.sctp_rx.specs.DataTracker.{is_ack_due}
use Rattle.spec_endpoint.specs.Calls.{opens_window, without_first_message, take_message}
use Rattle.spec_endpoint.specs.Timers.{sends_owed, poll_timeout}
use Rattle.spec_endpoint.specs.Laws.{Call, called}
use Rattle.proof_awake.specs.Awake.{is_none, is_delayed, IsAwake}
use Rattle.proof_endpoint.specs.Lifecycles.{is_restore}
use Rattle.proof_awake.specs.Invariant.{IsTimed}

-- a new end with valid options; and what each call leaves, but the one that takes up a record, which starts no timer unless stalls are avoided
abbrev pub NewEndsAreTimed : Type 0
NewEndsAreTimed = (o : Options) (pack : Packing (List ℕ)) (draws : Stream) → IsValid o → IsTimed (fresh o pack draws).endpoint_state

abbrev pub EachCallKeepsTimed : Type 0
EachCallKeepsTimed = (call : Call) (s : Endpoint (List ℕ)) → is_restore call ≡ false → IsTimed s.endpoint_state → IsTimed (called call s).endpoint_state

abbrev pub TimedEndsAreAwake : Type 0
TimedEndsAreAwake = (s : EndpointState (List ℕ)) → IsTimed s → IsAwake s

-- ---- what `poll_timeout` says of it

-- its next expiry isn't past the end of time
abbrev pub IsInTime : Timer → Type 0
IsInTime t = (moment : ℕ) → t.due ≡ Some moment → moment < forever

abbrev pub PhaseIsInTime : Phase → Type 0
PhaseIsInTime (CookieEchoed t1 cookie) = IsInTime t1
PhaseIsInTime Established = Unit {0}
PhaseIsInTime ShutdownPending = Unit {0}
PhaseIsInTime (ShutdownSent t2) = IsInTime t2
PhaseIsInTime ShutdownReceived = Unit {0}
PhaseIsInTime (ShutdownAckSent t2) = IsInTime t2

pub record BlockIsInTime (phase : Phase) (t : Tcb) (h : Heartbeats) : Type 0 where
  pub phase_timer : PhaseIsInTime phase
  pub t3 : IsInTime t.sender.t3
  pub request : IsInTime t.requests.timer
  pub delay : IsInTime t.tracker.tracker.delay
  pub interval : IsInTime h.interval

abbrev pub StateIsInTime : State → Heartbeats → Type 0
StateIsInTime Closed h = Unit {0}
StateIsInTime (CookieWait tag first t1) h = IsInTime t1
StateIsInTime (Open phase t) h = BlockIsInTime phase t h

-- at rest, with nothing to wait for
pub record Rests (t : Tcb) : Type 0 where
  pub nothing_kept : is_none t.sender.outstanding.items.kept ≡ true
  pub no_request : t.requests.current ≡ None
  pub no_ack : is_delayed t.tracker.tracker.ack ≡ false

-- with stalls avoided a shutdown may wait for the queue alone
abbrev pub ShutIsQuiet : (avoids : Bool) → Tcb → Type 0
ShutIsQuiet true t = Rests t
ShutIsQuiet false t = ⊥

-- connected, at rest, with no heartbeats
abbrev pub PhaseIsQuiet : (avoids : Bool) → Phase → Tcb → Heartbeats → Type 0
PhaseIsQuiet avoids (CookieEchoed t1 cookie) t h = ⊥
PhaseIsQuiet avoids Established t h = Rests t × ((h.interval.duration == 0) ≡ true)
PhaseIsQuiet avoids ShutdownPending t h = ShutIsQuiet avoids t
PhaseIsQuiet avoids (ShutdownSent t2) t h = ⊥
PhaseIsQuiet avoids ShutdownReceived t h = ShutIsQuiet avoids t
PhaseIsQuiet avoids (ShutdownAckSent t2) t h = ⊥

abbrev pub StateIsQuiet : (avoids : Bool) → State → Heartbeats → Type 0
StateIsQuiet avoids Closed h = Unit {0}
StateIsQuiet avoids (CookieWait tag first t1) h = ⊥
StateIsQuiet avoids (Open phase t) h = PhaseIsQuiet avoids phase t h

-- with stalls avoided a forward point that is due has a moment, where packets may go out (RFC 3758 section 3.5)
abbrev pub DuePointsHaveAMoment : Type 0
DuePointsHaveAMoment =
    (s : EndpointState (List ℕ)) (phase : Phase) (t : Tcb) → s.state ≡ Open phase t → is_before_cookie_ack phase ≡ false → sends_owed s.context ≡ true
    → is_forward_due t.sender.outstanding.items ≡ true → poll_timeout s ≤ max s.context.forward_from s.context.now

-- an acknowledgement that is due has one at once
abbrev pub DueAcknowledgementsHaveAMoment : Type 0
DueAcknowledgementsHaveAMoment =
    (s : EndpointState (List ℕ)) (phase : Phase) (t : Tcb) → s.state ≡ Open phase t → is_before_cookie_ack phase ≡ false → sends_owed s.context ≡ true
    → is_ack_due false t.tracker.tracker.ack ≡ true → poll_timeout s ≤ s.context.now

-- so it has where a message is taken, and the window opens again (RFC 9260 section 6.2)
abbrev pub OpenedWindowsHaveAMoment : Type 0
OpenedWindowsHaveAMoment =
    (s : EndpointState (List ℕ)) (phase : Phase) (t : Tcb) → s.state ≡ Open phase t → is_before_cookie_ack phase ≡ false → sends_owed s.context ≡ true
    → opens_window s.context.options t.reassembly (without_first_message t).reassembly ≡ true → poll_timeout (take_message s) ≤ s.context.now

-- no moment is named only by an end that is closed or quiet
abbrev pub OnlyQuietEndsNameNoMoment : Type 0
OnlyQuietEndsNameNoMoment =
    (s : EndpointState (List ℕ)) → IsAwake s → s.context.now < forever → StateIsInTime s.state s.context.heartbeats → poll_timeout s ≡ forever
    → StateIsQuiet s.context.options.avoid_stalls s.state s.context.heartbeats
