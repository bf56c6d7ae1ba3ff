-- Between events an end that owes something has a timer that runs.
use Rattle.std.specs.Prelude.{◌≡◌, ◌==◌, ◌⊎◌, Bool, true, false, Option, None, List, [], ◌∷◌}
use Rattle.sctp_state.specs.Timer.{Timer, is_running}
use Rattle.sctp_rx.specs.declared.data_tracker.AckState.{AckState}
use Rattle.sctp_rx.specs.declared.data_tracker.AckState.TheVariants.{Idle, Becoming, Delayed, Immediate}
use Rattle.sctp_tx_outstanding.specs.Item.{Item}
use Rattle.spec_endpoint.specs.Association.{Tcb, Phase, CookieEchoed, Established, ShutdownPending, ShutdownSent, ShutdownReceived, ShutdownAckSent, State, Closed, CookieWait, Open, Heartbeats, EndpointState}

abbrev pub Runs : Timer → Type 0
Runs t = is_running t ≡ true

abbrev pub is_none : List Item → Bool
is_none [] = true
is_none (i ∷ is) = false

-- an item that is kept is sent again, or its message given up, by T3-rtx (RFC 9260 section 6.3.2)
abbrev pub ItemsAreTimed : List Item → Timer → Type 0
ItemsAreTimed kept t3 = (is_none kept ≡ true) ⊎ Runs t3

-- a request to reset streams goes out again (RFC 6525 section 5.1.1)
abbrev pub RequestIsTimed : {A : Type 0} → Option A → Timer → Type 0
RequestIsTimed current timer = (current ≡ None) ⊎ Runs timer

abbrev pub is_delayed : AckState → Bool
is_delayed Delayed = true
is_delayed Idle = false
is_delayed Becoming = false
is_delayed Immediate = false

-- an acknowledgement that is delayed goes out (RFC 9260 section 6.2)
abbrev pub AckIsTimed : AckState → Timer → Type 0
AckIsTimed Delayed delay = Runs delay
AckIsTimed Idle delay = Unit {0}
AckIsTimed Becoming delay = Unit {0}
AckIsTimed Immediate delay = Unit {0}

pub record BlockIsAwake (t : Tcb) : Type 0 where
  pub items : ItemsAreTimed t.sender.outstanding.items.kept t.sender.t3
  pub request : RequestIsTimed t.requests.current t.requests.timer
  pub ack : AckIsTimed t.tracker.tracker.ack t.tracker.tracker.delay

-- an interval of zero sends no heartbeats
abbrev pub BeatsOn : Timer → Type 0
BeatsOn interval = ((interval.duration == 0) ≡ true) ⊎ Runs interval

-- a shutdown waits for items; with stalls avoided it may wait for the queue alone
abbrev pub WaitsForItems : (avoids : Bool) → List Item → Type 0
WaitsForItems true kept = Unit {0}
WaitsForItems false kept = is_none kept ≡ false

-- The timer of a state (RFC 9260 sections 5.1, 8.3, 9.2); a shutdown that waits for items has one.
abbrev pub PhaseIsAwake : (avoids : Bool) → Phase → List Item → Heartbeats → Type 0
PhaseIsAwake avoids (CookieEchoed t1 cookie) kept h = Runs t1
PhaseIsAwake avoids Established kept h = BeatsOn h.interval
PhaseIsAwake avoids ShutdownPending kept h = WaitsForItems avoids kept
PhaseIsAwake avoids (ShutdownSent t2) kept h = Runs t2
PhaseIsAwake avoids ShutdownReceived kept h = WaitsForItems avoids kept
PhaseIsAwake avoids (ShutdownAckSent t2) kept h = Runs t2

abbrev pub StateIsAwake : (avoids : Bool) → State → Heartbeats → Type 0
StateIsAwake avoids Closed h = Unit {0}
StateIsAwake avoids (CookieWait tag first t1) h = Runs t1
StateIsAwake avoids (Open phase t) h = PhaseIsAwake avoids phase t.sender.outstanding.items.kept h × BlockIsAwake t

abbrev pub IsAwake : {P : Type 0} → EndpointState P → Type 0
IsAwake s = StateIsAwake s.context.options.avoid_stalls s.state s.context.heartbeats
