-- What each change of a control block leaves of its timers.
use Rattle.std.proofs.Common.{ℕ, ◌+◌, ◌/◌, ◌≤◌, inl, inr, Bool, true, false, cond, min, max, Option, Some, None, List, refl, sym, subst, arith}
use Rattle.std.specs.Prelude.{◌==◌, option_map}
use Rattle.sctp_state.specs.Options.{Options}
use Rattle.sctp_state.specs.Timer.{Timer, start, stop, is_due, expire, set_duration}
use Rattle.sctp_state.specs.RetransmissionTimeout.{Rtt, rto, is_dropped, first_sample, later_sample, observe_rto}
use Rattle.sctp_rx.specs.declared.data_tracker.AckState.{AckState}
use Rattle.sctp_rx.specs.declared.data_tracker.AckState.TheVariants.{Idle, Becoming, Delayed, Immediate}
use Rattle.sctp_rx.specs.DataTracker.{Tracker, ack_delay, update_rto, ack_after, is_ack_due, take_ack, is_becoming, packet_end, ack_timeout, observe, forward}
use Rattle.sctp_capabilities.specs.Capabilities.{Capabilities}
use Rattle.sctp_tx.specs.RetransmissionQueue.{Sender}
use Rattle.spec_endpoint.specs.Association.{Identity, Tcb, tcb}
use Rattle.spec_endpoint.specs.ResetRequests.{Request, Requests, start_request, lasting, without_deferral, clear_deferral, expire_reconfig_timer, is_final, end_or_defer, response_if, handle_response_in, handle_response, set_last_request}
use Rattle.spec_endpoint.specs.Sack.{sample_rtt}
use Rattle.proof_awake.specs.Awake.{AckIsTimed, RequestIsTimed, BlockIsAwake}
use Rattle.proof_awake.specs.Invariant.{HasLimits, SenderHolds, RttHolds, AckHolds, TrackerHolds, RequestsHold, BlockHolds}
use Rattle.proof_awake.proofs.TimerLemmas.{started, goes_on, lasts_started, lasts_stopped, lasts_set, lasts_on, expire_duration}
use Rattle.proof_awake.proofs.RoomLemmas.{new_room}
use Rattle.proof_awake.proofs.SenderLemmas.{timed_holds}

-- ---- round trips

pub rto_least : (r : Rtt) → RttHolds r → 2 ≤ rto r
rto_least r h = go r.is_sampled
  where
    go : (b : Bool) → 2 ≤ (let n : ℕ = cond b (min (max (r.s8 / 8 + r.v4) r.rto_min) r.rto_max) r.rto_initial in n)
    go true = let a = h.range in let b = h.least in omega (arith, a, b)
    go false = h.initial

pub rtt_holds : (sample : ℕ) (r : Rtt) → RttHolds r → RttHolds (observe_rto sample r)
rtt_holds sample r h = go (is_dropped sample r) r.is_sampled
  where
    go : (a b : Bool) → RttHolds (let x : Rtt = cond a r (let y : Rtt = cond b (later_sample sample r) (first_sample sample r) in y) in x)
    go true b = h
    go false true = record { range = h.range; least = h.least; initial = h.initial }
    go false false = record { range = h.range; least = h.least; initial = h.initial }

-- ---- acknowledgements

delay_least : (n most : ℕ) → 2 ≤ n → 1 ≤ most → 1 ≤ ack_delay n most
delay_least n most a b = omega (arith, a, b)

pub updated_holds : (n : ℕ) (t : Tracker) → 2 ≤ n → TrackerHolds t → TrackerHolds (update_rto n t)
updated_holds n t l h = record { duration = delay_least n t.most_delay l h.most_delay; most_delay = h.most_delay; timed = by t.ack h.timed }
  where
    by : (a : AckState) → AckIsTimed a t.delay → AckIsTimed a (update_rto n t).delay
    by Idle k = tt
    by Becoming k = tt
    by Delayed k = k
    by Immediate k = tt

-- a packet isn't delayed by a chunk
not_delayed : (urgent : Bool) (a : AckState) (t : Timer) → AckIsTimed (ack_after urgent a) t
not_delayed true a t = tt
not_delayed false Idle t = tt
not_delayed false Becoming t = tt
not_delayed false Delayed t = tt
not_delayed false Immediate t = tt

pub observed_holds : (n : ℕ) (immediate : Bool) (t : Tracker) → TrackerHolds t → TrackerHolds (observe n immediate t)
observed_holds n immediate t h = record { duration = h.duration; most_delay = h.most_delay; timed = not_delayed _ t.ack (stop t.delay) }

pub forward_holds : (n : ℕ) (t : Tracker) → TrackerHolds t → TrackerHolds (forward n t)
forward_holds n t h = record { duration = h.duration; most_delay = h.most_delay; timed = not_delayed _ t.ack (stop t.delay) }

pub taken_holds : (also : Bool) (t : Tracker) → TrackerHolds t → TrackerHolds (take_ack also t)
taken_holds also t h = go (is_ack_due also t.ack)
  where
    go : (b : Bool) → AckHolds (let a : AckState = cond b Idle t.ack in a) (let d : Timer = cond b (stop t.delay) t.delay in d) t.most_delay
    go true = record { duration = h.duration; most_delay = h.most_delay; timed = tt }
    go false = h

pub ended_holds : (now : ℕ) (t : Tracker) → TrackerHolds t → TrackerHolds (packet_end now t)
ended_holds now t h = go (is_becoming t.ack)
  where
    go : (b : Bool) → AckHolds (let a : AckState = cond b Delayed t.ack in a) (let d : Timer = cond b (start now t.delay) t.delay in d) t.most_delay
    go true = record { duration = h.duration; most_delay = h.most_delay; timed = started now t.delay h.duration }
    go false = h

pub delay_holds : (now : ℕ) (t : Tracker) → TrackerHolds t → TrackerHolds (ack_timeout now t)
delay_holds now t h = go (is_due now t.delay)
  where
    go : (b : Bool) → AckHolds (let a : AckState = cond b Immediate t.ack in a) (let d : Timer = cond b (stop (expire now t.delay)) t.delay in d) t.most_delay
    go true = record { duration = subst (λ n. 1 ≤ n) (sym (expire_duration now t.delay)) h.duration; most_delay = h.most_delay; timed = tt }
    go false = h

-- ---- requests

pub request_starts : (now n last_tsn : ℕ) (streams : List ℕ) (r : Requests) → 1 ≤ n → RequestsHold r → RequestsHold (start_request now n last_tsn streams r)
request_starts now n last_tsn streams r l h =
    let t : Timer = set_duration n r.timer in
    record { lasts = lasts_started now t (lasts_set n r.timer l h.lasts); timed = inr (started now t l) }

pub request_lasts : (n : ℕ) (r : Requests) → 1 ≤ n → RequestsHold r → RequestsHold (lasting n r)
request_lasts n r l h = record { lasts = lasts_set n r.timer l h.lasts; timed = h.timed }

pub last_set : (number result : ℕ) (r : Requests) → RequestsHold r → RequestsHold (set_last_request number result r)
last_set number result r h = record { lasts = h.lasts; timed = h.timed }

response_holds : (b : Bool) (now n result : ℕ) (q : Request) (r : Requests) → 1 ≤ n → RequestsHold r → RequestsHold (response_if b now n result q r)
response_holds false now n result q r l h = h
response_holds true now n result q r l h = ends (is_final result)
  where
    ends : (b : Bool) → RequestsHold (end_or_defer b now n q r)
    ends true = record { lasts = lasts_stopped r.timer h.lasts; timed = inl refl }
    ends false =
        let t : Timer = set_duration n r.timer in
        record { lasts = lasts_started now t (lasts_set n r.timer l h.lasts); timed = inr (started now t l) }

pub handled_holds : (now n number result : ℕ) (r : Requests) → 1 ≤ n → RequestsHold r → RequestsHold (handle_response now n number result r)
handled_holds now n number result r l h = by r.current
  where
    by : (o : Option Request) → RequestsHold (handle_response_in o now n number result r)
    by None = h
    by (Some q) = response_holds (q.number == number) now n result q r l h

-- at an expiry it goes on
pub woken_holds : (now : ℕ) (r : Requests) → RequestsHold r → RequestsHold (clear_deferral (expire_reconfig_timer now r))
woken_holds now r h = record { lasts = lasts_on now r.timer h.lasts; timed = by r.current h.timed }
  where
    by : (o : Option Request) → RequestIsTimed o r.timer → RequestIsTimed (option_map without_deferral o) (expire now r.timer)
    by None k = inl refl
    by (Some q) (inl z) = absurd (cc)
    by (Some q) (inr k) = inr (goes_on now r.timer h.lasts.restarts k)

-- ---- the control block

pub block_awake : (b : Bool) (t : Tcb) → BlockHolds b t → BlockIsAwake t
block_awake b t h = record { items = h.sender.timed; request = h.requests.timed; ack = h.tracker.timed }

pub with_sender : (b d : Bool) (t : Tcb) (s : Sender) → SenderHolds d s → BlockHolds b t → BlockHolds d (record t { sender = s })
with_sender b d t s k h = record { sender = k; requests = h.requests; tracker = h.tracker; rtt = h.rtt }

pub with_requests : (b : Bool) (t : Tcb) (r : Requests) → RequestsHold r → BlockHolds b t → BlockHolds b (record t { requests = r })
with_requests b t r k h = record { sender = h.sender; requests = k; tracker = h.tracker; rtt = h.rtt }

pub with_tracker : (b : Bool) (t : Tcb) (d : Tracker) → TrackerHolds d → BlockHolds b t → BlockHolds b (record t { tracker = record t.tracker { tracker = d } })
with_tracker b t d k h = record { sender = h.sender; requests = h.requests; tracker = k; rtt = h.rtt }

pub sampled_holds : (b : Bool) (o : Option ℕ) (t : Tcb) → BlockHolds b t → BlockHolds b (sample_rtt o t)
sampled_holds b None t h = h
sampled_holds b (Some sample) t h =
    let r : Rtt = observe_rto sample t.rtt in
    let k : RttHolds r = rtt_holds sample t.rtt h.rtt in
    let l = rto_least r k in
    record {
      sender = timed_holds b (rto r) t.sender (omega (arith, l)) h.sender;
      requests = h.requests;
      tracker = updated_holds (rto r) t.tracker.tracker l h.tracker;
      rtt = k;
    }

pub new_block : (avoids : Bool) (o : Options) (i : Identity) (a_rwnd : ℕ) (k : Capabilities) → HasLimits avoids o → BlockHolds false (tcb o i a_rwnd k)
new_block avoids o i a_rwnd k h =
    let two = h.rto_initial in
    let one : 1 ≤ o.rto_initial = omega (arith, two) in
    record {
      sender = record { lasts = record { restarts = refl; duration = one }; timed = inl refl; some = tt; windows = new_room avoids o a_rwnd h };
      requests = record { lasts = record { restarts = refl; duration = one }; timed = inl refl };
      tracker = record { duration = delay_least o.rto_initial o.delayed_ack_max_timeout h.rto_initial h.delayed_ack; most_delay = h.delayed_ack; timed = tt };
      rtt = record { range = h.rto_range; least = h.rto_min; initial = h.rto_initial };
    }
