-- The invariant behind it: timers that run go on after an expiry, those that are started do run, and so each call leaves an end awake.
use Rattle.std.specs.Prelude.{◌≡◌, ℕ, ◌≤◌, not, Bool, true, false, None, List}
use Rattle.sctp_state.specs.Options.{Options}
use Rattle.sctp_state.specs.RetransmissionTimeout.{Rtt}
use Rattle.sctp_state.specs.Timer.{Timer}
use Rattle.sctp_rx.specs.declared.data_tracker.AckState.{AckState}
use Rattle.sctp_rx.specs.DataTracker.{Tracker}
use Rattle.sctp_tx_outstanding.specs.Item.{Item}
use Rattle.sctp_tx.specs.Windows.{Windows}
use Rattle.sctp_tx.specs.RetransmissionQueue.{Sender}
use Rattle.spec_endpoint.specs.Association.{Tcb, Phase, CookieEchoed, Established, ShutdownPending, ShutdownSent, ShutdownReceived, ShutdownAckSent, State, Closed, CookieWait, Open, Heartbeats, EndpointState}
use Rattle.spec_endpoint.specs.ResetRequests.{Requests}
use Rattle.proof_awake.specs.Awake.{Runs, is_none, ItemsAreTimed, RequestIsTimed, AckIsTimed, BeatsOn}

-- a timer without a last expiry, whose start isn't in vain
pub record Lasts (t : Timer) : Type 0 where
  pub restarts : t.restarts ≡ None
  pub duration : 1 ≤ t.duration

-- of the options, with stalls avoided or not: valid ones have it
pub record HasLimits (avoids : Bool) (o : Options) : Type 0 where
  pub rto_range : o.rto_min ≤ o.rto_max
  pub rto_min : 2 ≤ o.rto_min
  pub rto_initial : 2 ≤ o.rto_initial
  pub t1_init : 1 ≤ o.t1_init_timeout
  pub t1_cookie : 1 ≤ o.t1_cookie_timeout
  pub delayed_ack : 1 ≤ o.delayed_ack_max_timeout
  pub mtu_least : 256 ≤ o.mtu
  pub mtu_most : o.mtu ≤ 65535
  pub cwnd_initial : 1 ≤ o.cwnd_mtus_initial
  pub cwnd_min : 1 ≤ o.cwnd_mtus_min
  pub stalls : o.avoid_stalls ≡ avoids

-- ---- the parts of a control block

-- what a shutdown waits for
abbrev pub HasItems : Bool → List Item → Type 0
HasItems true kept = is_none kept ≡ false
HasItems false kept = Unit {0}

-- the congestion window lets a whole packet go, and so does the least one that a loss leaves
pub record HasRoom (mtu cwnd least_cwnd : ℕ) : Type 0 where
  pub some : 256 ≤ mtu
  pub most : mtu ≤ 65535
  pub whole : mtu ≤ cwnd
  pub least : mtu ≤ least_cwnd

abbrev pub WindowsHaveRoom : Windows → Type 0
WindowsHaveRoom w = HasRoom w.mtu w.cwnd w.least_cwnd

pub record SenderHolds (waits : Bool) (s : Sender) : Type 0 where
  pub lasts : Lasts s.t3
  pub timed : ItemsAreTimed s.outstanding.items.kept s.t3
  pub some : HasItems waits s.outstanding.items.kept
  pub windows : WindowsHaveRoom s.windows

-- round trips give a timeout that isn't zero, and half of it isn't
pub record RttHolds (r : Rtt) : Type 0 where
  pub range : r.rto_min ≤ r.rto_max
  pub least : 2 ≤ r.rto_min
  pub initial : 2 ≤ r.rto_initial

-- an acknowledgement is delayed by some time
pub record AckHolds (ack : AckState) (delay : Timer) (most : ℕ) : Type 0 where
  pub duration : 1 ≤ delay.duration
  pub most_delay : 1 ≤ most
  pub timed : AckIsTimed ack delay

abbrev pub TrackerHolds : Tracker → Type 0
TrackerHolds t = AckHolds t.ack t.delay t.most_delay

pub record RequestsHold (r : Requests) : Type 0 where
  pub lasts : Lasts r.timer
  pub timed : RequestIsTimed r.current r.timer

pub record BlockHolds (waits : Bool) (t : Tcb) : Type 0 where
  pub sender : SenderHolds waits t.sender
  pub requests : RequestsHold t.requests
  pub tracker : TrackerHolds t.tracker.tracker
  pub rtt : RttHolds t.rtt

-- heartbeats go on where the phase sends some
abbrev pub Beats : Bool → Timer → Type 0
Beats true interval = BeatsOn interval
Beats false interval = Unit {0}

pub record ContextHolds (avoids beats : Bool) (o : Options) (h : Heartbeats) : Type 0 where
  pub options : HasLimits avoids o
  pub restarts : h.interval.restarts ≡ None
  pub interval : Beats beats h.interval

-- ---- an end

abbrev pub is_established : Phase → Bool
is_established (CookieEchoed t1 cookie) = false
is_established Established = true
is_established ShutdownPending = false
is_established (ShutdownSent t2) = false
is_established ShutdownReceived = false
is_established (ShutdownAckSent t2) = false

-- a shutdown that waits for items: with stalls avoided it may wait for the queue alone
abbrev pub waits : (avoids : Bool) → Phase → Bool
waits avoids (CookieEchoed t1 cookie) = false
waits avoids Established = false
waits avoids ShutdownPending = not avoids
waits avoids (ShutdownSent t2) = false
waits avoids ShutdownReceived = not avoids
waits avoids (ShutdownAckSent t2) = false

abbrev pub PhaseRuns : Phase → Type 0
PhaseRuns (CookieEchoed t1 cookie) = Runs t1
PhaseRuns Established = Unit {0}
PhaseRuns ShutdownPending = Unit {0}
PhaseRuns (ShutdownSent t2) = Runs t2
PhaseRuns ShutdownReceived = Unit {0}
PhaseRuns (ShutdownAckSent t2) = Runs t2

abbrev pub OpenHolds : (avoids : Bool) → Phase → Tcb → Options → Heartbeats → Type 0
OpenHolds avoids phase t o h = ContextHolds avoids (is_established phase) o h × (PhaseRuns phase × BlockHolds (waits avoids phase) t)

abbrev pub StateHolds : (avoids : Bool) → State → Options → Heartbeats → Type 0
StateHolds avoids Closed o h = ContextHolds avoids false o h
StateHolds avoids (CookieWait tag first t1) o h = ContextHolds avoids false o h × Runs t1
StateHolds avoids (Open phase t) o h = OpenHolds avoids phase t o h

abbrev pub IsTimed : {P : Type 0} → EndpointState P → Type 0
IsTimed s = StateHolds s.context.options.avoid_stalls s.state s.context.options s.context.heartbeats
