-- Fragments and forward points at a receiver: where each leads the rules, and the values after it.
use Rattle.std.proofs.Common.{◌≡◌, ℕ, suc, ◌+◌, Bool, true, false, if◌then◌else◌, ◌&&◌, ◌==◌, inl, inr, Option, Some, None, option_map, List, [], ◌∷◌, length, map, refl, sym, ap, ◌∙◌, subst, arith}
use Rattle.std.specs.List.{list_all}
use Rattle.sctp_serial.specs.Messages as messages
use Rattle.sctp_serial.specs.Unwrapped.{origin, u32_space, wire}
use Rattle.sctp_serial.specs.declared.api.StreamId.{StreamId}
use Rattle.sctp_packet.specs.Chunk.{FragmentTree}
use Rattle.sctp_chunk.specs.declared.forward_tsn.SkippedStream.{SkippedStream}
use Rattle.sctp_rx.specs.DataTracker as tracker
use Rattle.sctp_rx.specs.DataTracker.{Tracker, IsTracker, is_valid, has_seen, moves_on, observe}
use Rattle.sctp_rx.specs.ReassemblyStreams.{is_far, entries_in}
use Rattle.sctp_rx.specs.ReassemblyQueue.{Reassembly, Deferred, Waiting, Added, Forwarded, number_of, came, add_now, forward_now, is_kept_back, point_waits, with_waiting, keep_back, resetting, waiting_in, add, forward}
use Rattle.proof_protocol.specs.State.{Message, ForwardPoint, IsAmong}
use Rattle.proof_protocol.specs.Rules.{TransferEvent, data_comes, late_comes, forward_comes, become_ready, covers}
use Rattle.proof_protocol.specs.Points.{AreApart}
use Rattle.proof_protocol.specs.Based.{EpochWindows}
use Rattle.proof_protocol.proofs.BasedLemmas.{unseen_is_now}
use Rattle.proof_protocol.proofs.EpochLawsLemmas.{epoch_number_window, epoch_named_window}
use Rattle.proof_protocol.proofs.ToolsLemmas.{among_covers}
use Rattle.proof_refines.specs.View.{was_seen}
use Rattle.proof_refines.specs.Read.{Carries, is_behind, shift_after}
use Rattle.proof_refines.specs.ReceiverRefinement.{ReceiverRefines}
use Rattle.proof_refines.specs.Near.{IsWritten, AreEntries, AreFew, IsNearNext, AreNearNext, ReadsNear}
use Rattle.proof_refines.specs.Resets.{base_now, IsWaitingFor, Comes}
use Rattle.proof_refines.proofs.DeferralRowLemmas.{held_while, late_while, point_while}
use Rattle.proof_refines.proofs.NearNumberLemmas.{greatest}
use Rattle.proof_refines.proofs.NearTsnLemmas.{not_acknowledged, front, front_unseen, front_below}
use Rattle.proof_refines.proofs.RowLemmas.{old_point, again}
use Rattle.spec_endpoint.specs.Association.{Tcb}
use Rattle.spec_endpoint.specs.ResetRequests.{Requests}
use Rattle.spec_endpoint.specs.Data.{added_unless, skipped_if, take_fragment, handle_forward_tsn}
use Rattle.proof_delivery.specs.Asks.{ResetRequest, IsAnswering}
use Rattle.proof_delivery.proofs.ClaimLemmas.{Direction, transfer_of, is_receiving, goes_in, IsKept, GoesOn, AsksStay, IsReceiving}
use Rattle.proof_delivery.proofs.ReadingDataLemmas.{DataReceived, PointReceived}
use Rattle.proof_delivery.proofs.ReceiverToolLemmas.{ready_is_receiving, led, receiving_goes, performed_along, led_kept}
use Rattle.proof_delivery.proofs.TrackerStaysLemmas.{tracker_observes, tracker_passes}

-- ---- the streams of a reset that is deferred

abbrev pub streams_in : Option Deferred → Option (List StreamId)
streams_in o = option_map (λ (d : Deferred). d.streams) o

with_same : (w : Waiting) (o : Option Deferred) → streams_in (with_waiting w o) ≡ streams_in o
with_same w None = refl
with_same w (Some d) = refl

add_same : (tsn : ℕ) (f : FragmentTree) (r : Reassembly) → streams_in (add tsn f r).deferred ≡ streams_in r.deferred
add_same tsn f r = go (is_far n) (is_kept_back n f.stream_id r.deferred)
  where
    n : ℕ
    n = number_of r tsn

    go : (a b : Bool) → streams_in (if a then r else (if b then keep_back (Added n f) (came tsn r) else add_now n f (came tsn r))).deferred ≡ streams_in r.deferred
    go true b = refl
    go false true = with_same (Added n f) r.deferred
    go false false = refl

forward_same : (tsn : ℕ) (es : List SkippedStream) (r : Reassembly) → streams_in (forward tsn es r).deferred ≡ streams_in r.deferred
forward_same tsn es r = go (is_far n) (point_waits n r.deferred) ((length part == 0) && (length (waiting_in r.deferred) == 0))
  where
    n : ℕ
    n = number_of r tsn

    part : List SkippedStream
    part = entries_in true (resetting r.deferred) es

    others : Reassembly
    others = forward_now n (entries_in false (resetting r.deferred) es) (came tsn r)

    go : (a b c : Bool) → streams_in (if a then r else (if b then (if c then others else keep_back (Forwarded n part) others) else forward_now n es (came tsn r))).deferred ≡ streams_in r.deferred
    go true b c = refl
    go false true true = refl
    go false true false = with_same (Forwarded n part) r.deferred
    go false false c = refl

pub added_same : (b : Bool) (tsn : ℕ) (f : FragmentTree) (r : Reassembly) → streams_in (added_unless b tsn f r).deferred ≡ streams_in r.deferred
added_same true tsn f r = refl
added_same false tsn f r = add_same tsn f r

pub skipped_same : (b : Bool) (tsn : ℕ) (es : List SkippedStream) (r : Reassembly) → streams_in (skipped_if b tsn es r).deferred ≡ streams_in r.deferred
skipped_same true tsn es r = forward_same tsn es r
skipped_same false tsn es r = refl

-- which is what an answer looks at
module _ (first done : ℕ) (asks : List ResetRequest) (q : Requests) where
  none_still : (d e : Option Deferred) → streams_in e ≡ streams_in d → d ≡ None → e ≡ None
  none_still d None same none = refl
  none_still None (Some e) same none = cc
  none_still (Some d) (Some e) same none = cc

  some_still : (d e : Option Deferred) (r : Deferred) → streams_in e ≡ streams_in d → d ≡ Some r → (s : Deferred) × (e ≡ Some s) × (s.streams ≡ r.streams)
  some_still d (Some e) r same is = (e, refl, streams_same (same ∙ ap streams_in is))
    where
      streams_same : Some e.streams ≡ Some r.streams → e.streams ≡ r.streams
      streams_same s = cc
  some_still None None r same is = cc
  some_still (Some d) None r same is = cc

  pub answers_still : (d e : Option Deferred) → streams_in e ≡ streams_in d → IsAnswering first done asks q d → IsAnswering first done asks q e
  answers_still d e same (inl p) = inl (record { last = p.last; result = p.result; none = none_still d e same p.none })
  answers_still d e same (inr p) =
      let s = some_still d e p.reset same p.is in
      inr (record { ask = p.ask; there = p.there; last = p.last; result = p.result; reset = s.0; is = s.1; streams = s.2 ∙ p.streams })

-- ---- the rules go on to a state that these values show

pub record Arrives (message : ℕ → Message) (is_interleaved : Bool) (first : ℕ) (handed : List messages.Message) (x : Direction) (t : Tracker) (r : Reassembly) : Type 0 where
  pub events : List TransferEvent
  pub all : list_all is_receiving events ≡ true
  pub shift : ℕ
  pub comes : Comes message is_interleaved first shift x.rules events handed t r
  pub is_tracker : IsTracker t

module _ (message : ℕ → Message) (is_interleaved : Bool) (first : ℕ) (handed : List messages.Message) (x : Direction) (kept : IsKept message is_interleaved x) (windows : EpochWindows message x.rules)
    (few : AreFew (transfer_of x).sender) (shift : ℕ) (t : Tracker) (r : Reassembly) (shown : ReceiverRefines message is_interleaved (base_now x.rules) shift (transfer_of x) handed t r)
    (near : ReadsNear message is_interleaved (base_now x.rules) first shift (transfer_of x) r) (is : IsTracker t) (waiting : IsWaitingFor shift x.rules r.first r.deferred) where
  -- the values show the same state
  stays : (u : Tracker) → ReceiverRefines message is_interleaved (base_now x.rules) shift (transfer_of x) handed u r → IsTracker u → Arrives message is_interleaved first handed x u r
  stays u receives later = record {
    events = [];
    all = refl;
    shift = shift;
    comes = record { may = tt; refines = receives; near = near; waiting = waiting };
    is_tracker = later;
  }

  -- ---- a fragment

  module _ (k tsn : ℕ) (f : FragmentTree) (tsn_is : tsn ≡ wire u32_space first (origin + k)) (carries : Carries message is_interleaved (transfer_of x).sender k f)
      (written : IsWritten message is_interleaved (transfer_of x).sender k f) (now : Bool) (valid : is_valid t (origin + k) ≡ true) where
    later : IsTracker (observe (origin + k) now t)
    later = tracker_observes t (origin + k) now is valid

    -- of the epoch that the receiver is in
    ordered : was_seen t k ≡ false → IsNearNext message (transfer_of x) k
    ordered unseen o =
        let here = sym (shown.seen k) ∙ unseen in
        epoch_number_window message is_interleaved x.rules kept.epochs windows k (not_acknowledged message is_interleaved (transfer_of x) kept.epochs.order.kept k here) carries.numbered o
        (unseen_is_now message is_interleaved x.rules kept.epochs.order kept.epochs.based k carries.numbered here)

    new_arrives : was_seen t k ≡ false → (b : Bool) → is_behind message is_interleaved (transfer_of x).sender (transfer_of x).receiver k ≡ b
        → Arrives message is_interleaved first handed x (observe (origin + k) now t) (added_unless false tsn f r)
    new_arrives unseen false current =
        let l = held_while message is_interleaved first shift x.rules kept.epochs windows.items handed t r shown near waiting is k tsn f few tsn_is carries written unseen (ordered unseen) now current in
        record { events = data_comes k ∷ map become_ready l.0; all = ready_is_receiving l.0; shift = shift_after r.first shift k; comes = l.1; is_tracker = later }
    new_arrives unseen true late =
        let l = late_while message is_interleaved first shift x.rules kept.epochs windows.items handed t r shown near waiting is k tsn f few tsn_is carries written unseen (ordered unseen) now late in
        record { events = late_comes k ∷ []; all = refl; shift = shift_after r.first shift k; comes = l; is_tracker = later }

    fragment_by : (b : Bool) → was_seen t k ≡ b → Arrives message is_interleaved first handed x (observe (origin + k) now t) (added_unless b tsn f r)
    fragment_by false unseen = new_arrives unseen (is_behind message is_interleaved (transfer_of x).sender (transfer_of x).receiver k) refl
    fragment_by true seen = stays (observe (origin + k) now t) (again message is_interleaved shift (base_now x.rules) (transfer_of x) handed t r shown k now is seen) later

    pub fragment_arrives : Arrives message is_interleaved first handed x (observe (origin + k) now t) (added_unless (was_seen t k) tsn f r)
    fragment_arrives = fragment_by (was_seen t k) refl

  -- ---- a forward point

  module _ (k tsn : ℕ) (skipped : List SkippedStream) (f : ForwardPoint) (sent : IsAmong f (transfer_of x).forward_points) (last : f.upto ≡ suc k)
      (tsn_is : tsn ≡ wire u32_space first (origin + k)) (apart : AreApart f.entries) (are : AreEntries is_interleaved skipped f.entries)
      (valid : is_valid t (origin + k) ≡ true) where
    passed : IsTracker (tracker.forward (origin + k) t)
    passed = tracker_passes t (origin + k) is valid

    -- it passes the front
    named : moves_on (origin + k) t ≡ true → AreNearNext (transfer_of x) f
    named moves e a o =
        let u = front message is_interleaved (base_now x.rules) shift (transfer_of x) kept.epochs.order.kept handed t r shown is in
        let below = front_below message is_interleaved (base_now x.rules) shift (transfer_of x) kept.epochs.order.kept handed t r shown is k moves in
        epoch_named_window message is_interleaved x.rules kept.epochs windows f u e.stream e.number sent (omega (arith, below, last))
        (front_unseen message is_interleaved (base_now x.rules) shift (transfer_of x) kept.epochs.order.kept handed t r shown is)
        (subst (λ z. covers f.entries z e.stream e.number ≡ true) o (among_covers e f.entries a))
        (λ m h. greatest f.entries apart e a m (subst (λ z. covers f.entries z e.stream m ≡ true) (sym o) h))

    point_by : (b : Bool) → moves_on (origin + k) t ≡ b → Arrives message is_interleaved first handed x (tracker.forward (origin + k) t) (skipped_if b tsn skipped r)
    point_by true moves =
        let l = point_while message is_interleaved first shift x.rules kept.epochs windows.items handed t r shown near waiting is k tsn f few sent last moves tsn_is apart (named moves) skipped are in
        record { events = forward_comes f ∷ map become_ready l.0; all = ready_is_receiving l.0; shift = shift_after r.first shift k; comes = l.1; is_tracker = passed }
    point_by false old = stays (tracker.forward (origin + k) t) (old_point message is_interleaved shift (base_now x.rules) (transfer_of x) handed t r shown (origin + k) old) passed

    pub point_arrives : Arrives message is_interleaved first handed x (tracker.forward (origin + k) t) (skipped_if (moves_on (origin + k) t) tsn skipped r)
    point_arrives = point_by (moves_on (origin + k) t) refl

-- ---- the control block after it

-- nothing is performed
pub record Leads (message : ℕ → Message) (is_interleaved : Bool) (handed : List messages.Message) (x : Direction) (t : Tcb) : Type 0 where
  pub to : Direction
  pub goes : GoesOn message is_interleaved goes_in x to
  pub kept : IsKept message is_interleaved to
  pub stay : AsksStay x to
  pub performed : (s : ℕ) → to.rules.performed s ≡ x.rules.performed s
  pub shown : IsReceiving message is_interleaved handed t to

module _ (message : ℕ → Message) (is_interleaved : Bool) (handed : List messages.Message) (x : Direction) (t : Tcb) (shown : IsReceiving message is_interleaved handed t x)
    (kept : IsKept message is_interleaved x) (windows : EpochWindows message x.rules) (few : AreFew (transfer_of x).sender) where
  leads_to : (u : Tracker) (r : Reassembly) → streams_in r.deferred ≡ streams_in t.reassembly.deferred → Arrives message is_interleaved t.tracker.first handed x u r
      → Leads message is_interleaved handed x (record t { tracker = record t.tracker { tracker = u }; reassembly = r })
  leads_to u r same a = record {
    to = led message is_interleaved x a.events;
    goes = receiving_goes message is_interleaved x a.events a.comes.may a.all;
    kept = led_kept message is_interleaved x a.events kept a.comes.may;
    stay = (refl, refl);
    performed = λ s. ap (λ (f : ℕ → ℕ). f s) (performed_along message is_interleaved a.events x.rules);
    shown = record {
      shift = a.shift;
      refines = a.comes.refines;
      near = a.comes.near;
      is_tracker = a.is_tracker;
      waiting = a.comes.waiting;
      first = shown.first;
      answers = answers_still t.identity.peer_first x.done x.asks t.requests t.reassembly.deferred r.deferred same shown.answers;
    };
  }

  -- as the TSN stands for the number n
  abbrev taken_at : (n tsn : ℕ) (now : Bool) → FragmentTree → Tcb
  taken_at n tsn now f = record t {
    tracker = record t.tracker { tracker = observe n now t.tracker.tracker };
    reassembly = added_unless (has_seen t.tracker.tracker n) tsn f t.reassembly;
  }

  pub taken_leads : (tsn : ℕ) (now : Bool) (f : FragmentTree) → DataReceived message is_interleaved (transfer_of x) t.tracker tsn f
      → is_valid t.tracker.tracker (tracker.number_of t.tracker tsn) ≡ true → Leads message is_interleaved handed x (take_fragment tsn now f t)
  taken_leads tsn now f h valid =
      let n : ℕ = origin + h.at in
      let there : is_valid t.tracker.tracker n ≡ true = subst (λ (m : ℕ). is_valid t.tracker.tracker m ≡ true) (h.number_is valid) valid in
      let a = fragment_arrives message is_interleaved t.tracker.first handed x kept windows few shown.shift t.tracker.tracker t.reassembly shown.refines shown.near
      shown.is_tracker shown.waiting h.at tsn f h.tsn_is h.carries h.written now there in
      let l : Leads message is_interleaved handed x (taken_at n tsn now f) =
      leads_to (observe n now t.tracker.tracker) (added_unless (has_seen t.tracker.tracker n) tsn f t.reassembly)
      (added_same (has_seen t.tracker.tracker n) tsn f t.reassembly) a in
      subst (λ (m : ℕ). Leads message is_interleaved handed x (taken_at m tsn now f)) (sym (h.number_is valid)) l

  abbrev passed_at : (n tsn : ℕ) → List SkippedStream → Tcb
  passed_at n tsn skipped = record t {
    tracker = record t.tracker { tracker = tracker.forward n t.tracker.tracker };
    reassembly = skipped_if (moves_on n t.tracker.tracker) tsn skipped t.reassembly;
  }

  pub passed_leads : (tsn : ℕ) (skipped : List SkippedStream) → PointReceived is_interleaved (transfer_of x) t.tracker tsn skipped
      → is_valid t.tracker.tracker (tracker.number_of t.tracker tsn) ≡ true → Leads message is_interleaved handed x (handle_forward_tsn tsn skipped t)
  passed_leads tsn skipped h valid =
      let n : ℕ = origin + h.at in
      let there : is_valid t.tracker.tracker n ≡ true = subst (λ (m : ℕ). is_valid t.tracker.tracker m ≡ true) (h.number_is valid) valid in
      let a = point_arrives message is_interleaved t.tracker.first handed x kept windows few shown.shift t.tracker.tracker t.reassembly shown.refines shown.near
      shown.is_tracker shown.waiting h.at tsn skipped h.point h.sent h.upto h.tsn_is h.apart h.entries there in
      let l : Leads message is_interleaved handed x (passed_at n tsn skipped) =
      leads_to (tracker.forward n t.tracker.tracker) (skipped_if (moves_on n t.tracker.tracker) tsn skipped t.reassembly)
      (skipped_same (moves_on n t.tracker.tracker) tsn skipped t.reassembly) a in
      subst (λ (m : ℕ). Leads message is_interleaved handed x (passed_at m tsn skipped)) (sym (h.number_is valid)) l
