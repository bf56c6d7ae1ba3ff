-- Lifecycles: how the ends that are emitted and those that are alive add up.
use Rattle.std.proofs.Common.{◌≡◌, ℕ, ◌+◌, ◌≤◌, Bool, true, false, cond, Option, Some, None, List, [], ◌∷◌, ◌++◌, take, drop, refl, sym, ap, ◌∙◌, append_assoc, append-nil, take-append-drop, arith}
use Rattle.sctp_state.specs.declared.api.GivenUpCause.{GivenUpCause}
use Rattle.sctp_state.specs.declared.api.errors.SendError.{SendError}
use Rattle.sctp_state.specs.declared.api.errors.SendError.TheVariants.{EmptyPayload, MessageTooLarge, ShuttingDown, ResourceExhaustion as QueueFull, Memory, Failed}
use Rattle.sctp_state.specs.Events.{Event, OnBufferedAmountLow, OnTotalBufferedAmountLow, Emitted, emit_event, emit_events, emit_given_up, expired_events}
use Rattle.sctp_tx_outstanding.specs.Item.{Item, is_abandoned}
use Rattle.sctp_tx_outstanding.specs.Sack.{ending, leaving_events, all_leaving_events}
use Rattle.sctp_tx_queue.specs.SendQueue.{Queued}
use Rattle.sctp_tx_queue.specs.Produced.{when, fully_sent, production}
use Rattle.spec_endpoint.specs.Calls.{refusal_events, lifecycle_end_events}
use Rattle.proof_endpoint.specs.Lifecycles.{end_count, end_total, lifecycle_count, waiting, where_end, kept_ends}

-- From one moment to another events are emitted, and each end among them is taken from what is alive.
pub record Spends {P : Type 0} (l : ℕ) (before after : Emitted P) (x y : ℕ) : Type 0 where
  pub events : List (Event P)
  pub behind : after.events ≡ before.events ++ events
  pub counted : end_total l events + y ≤ x

pub ends_append : {P : Type 0} (l : ℕ) (es fs : List (Event P)) → end_total l (es ++ fs) ≡ end_total l es + end_total l fs
ends_append l [] fs = omega arith
ends_append l (e ∷ es) fs = omega (arith, ends_append l es fs)

pub waiting_append : (l : ℕ) (ms ns : List Queued) → waiting l (ms ++ ns) ≡ waiting l ms + waiting l ns
waiting_append l [] ns = omega arith
waiting_append l (m ∷ ms) ns = omega (arith, waiting_append l ms ns)

pub kept_append : (l : ℕ) (is js : List Item) → kept_ends l (is ++ js) ≡ kept_ends l is + kept_ends l js
kept_append l [] js = omega arith
kept_append l (i ∷ is) js = omega (arith, kept_append l is js)

pub kept_split : (l n : ℕ) (is : List Item) → kept_ends l (take n is) + kept_ends l (drop n is) ≡ kept_ends l is
kept_split l n is =
    sym (kept_append l (take n is) (drop n is)) ∙ ap (λ (js : List Item). kept_ends l js) (take-append-drop n is)

-- ---- events

pub ends_expiry : (P : Type 0) (l : ℕ) (o : Option ℕ) → end_total l (expired_events {P = P} o) ≡ lifecycle_count l o
ends_expiry P l None = refl
ends_expiry P l (Some id) = omega arith

pub ends_ended : (P : Type 0) (l : ℕ) (o : Option ℕ) → end_total l (lifecycle_end_events {P = P} o) ≡ lifecycle_count l o
ends_ended P l None = refl
ends_ended P l (Some id) = omega arith

pub ends_refusal : (P : Type 0) (l : ℕ) (e : SendError) → end_total l (refusal_events {P = P} e) ≡ 0
ends_refusal P l EmptyPayload = refl
ends_refusal P l (MessageTooLarge len limit) = refl
ends_refusal P l ShuttingDown = refl
ends_refusal P l QueueFull = refl
ends_refusal P l Memory = refl
ends_refusal P l Failed = refl

ends_when : {P : Type 0} (l : ℕ) (b : Bool) (e : Event P) → end_count l e ≡ 0 → end_total l (when b e) ≡ 0
ends_when l true e h = omega (arith, h)
ends_when l false e h = refl

ends_fully_sent : (P : Type 0) (l : ℕ) (o : Option ℕ) → end_total l (fully_sent {P = P} o) ≡ 0
ends_fully_sent P l None = refl
ends_fully_sent P l (Some id) = refl

pub ends_production : (P : Type 0) (l id : ℕ) (is_low is_total_low : Bool) (o : Option ℕ) → end_total l (production {P = P} id is_low is_total_low o) ≡ 0
ends_production P l id is_low is_total_low o =
    let low : List (Event P) = when is_low (OnBufferedAmountLow id) in
    let total : List (Event P) = when is_total_low OnTotalBufferedAmountLow in
    let sent : List (Event P) = fully_sent o in
    omega (
      arith,
      ends_append l low (total ++ sent),
      ends_append l total sent,
      ends_when {P = P} l is_low (OnBufferedAmountLow id) refl,
      ends_when {P = P} l is_total_low OnTotalBufferedAmountLow refl,
      ends_fully_sent P l o,
    )

pub ends_low : (P : Type 0) (l id : ℕ) (is_low : Bool) → end_total l (when {P = P} is_low (OnBufferedAmountLow id)) ≡ 0
ends_low P l id is_low = ends_when {P = P} l is_low (OnBufferedAmountLow id) refl

ends_ending : (P : Type 0) (l : ℕ) (b : Bool) (o : Option ℕ) → end_total l (ending {P = P} b o) ≡ lifecycle_count l o
ends_ending P l b None = refl
ends_ending P l true (Some id) = omega arith
ends_ending P l false (Some id) = omega arith

ends_report : (P : Type 0) (l : ℕ) (is_end is_given_up : Bool) (o : Option ℕ) → end_total l (cond is_end (ending {P = P} is_given_up o) []) ≡ where_end is_end (lifecycle_count l o)
ends_report P l true is_given_up o = ends_ending P l is_given_up o
ends_report P l false is_given_up o = refl

-- what leaves has its event
pub ends_reports : (P : Type 0) (l : ℕ) (is : List Item) → end_total l (all_leaving_events {P = P} is) ≡ kept_ends l is
ends_reports P l [] = refl
ends_reports P l (i ∷ is) =
    let first : List (Event P) = leaving_events i in
    let rest : List (Event P) = all_leaving_events is in
    omega (arith, ends_append l first rest, ends_report P l i.fragment.is_end (is_abandoned i) i.lifecycle, ends_reports P l is)

-- ---- steps

module _ {P : Type 0} (l : ℕ) where
  pub spends_nothing : (t : Emitted P) (x y : ℕ) → y ≤ x → Spends l t t x y
  spends_nothing t x y h = record { events = []; behind = sym (append-nil t.events); counted = omega (arith, h) }

  pub spends_given_up : (n : ℕ) (cause : GivenUpCause) (t : Emitted P) (x y : ℕ) → y ≤ x → Spends l t (emit_given_up n cause t) x y
  spends_given_up n cause t x y h = record { events = []; behind = sym (append-nil t.events); counted = omega (arith, h) }

  pub spends_one : (e : Event P) (t : Emitted P) (x y : ℕ) → end_count l e + y ≤ x → Spends l t (emit_event e t) x y
  spends_one e t x y h = record { events = e ∷ []; behind = refl; counted = omega (arith, h) }

  pub spends_all : (es : List (Event P)) (t : Emitted P) (x y : ℕ) → end_total l es + y ≤ x → Spends l t (emit_events es t) x y
  spends_all es t x y h = record { events = es; behind = refl; counted = h }

  pub spends_then : {t u v : Emitted P} {x y z : ℕ} → Spends l t u x y → Spends l u v y z → Spends l t v x z
  spends_then {t} a b = record {
    events = a.events ++ b.events;
    behind = b.behind ∙ (ap (λ (es : List (Event P)). es ++ b.events) a.behind ∙ append_assoc t.events a.events b.events);
    counted = omega (arith, ends_append l a.events b.events, a.counted, b.counted);
  }

  -- with as much less spent, or more alive on both sides
  pub spends_within : {t u : Emitted P} {x y : ℕ} (z w : ℕ) → Spends l t u x y → x + w ≤ z + y → Spends l t u z w
  spends_within z w a h = record { events = a.events; behind = a.behind; counted = omega (arith, a.counted, h) }
