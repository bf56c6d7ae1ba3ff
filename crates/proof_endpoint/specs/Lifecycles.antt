-- A message's lifecycle ends at most once. By a count: each end that is emitted takes one of the lifecycles that are alive,
-- which come from messages that are handed in.
use Rattle.std.specs.Prelude.{◌≡◌, ℕ, ◌+◌, ◌*◌, ◌≤◌, ◌==◌, Bool, true, false, Option, Some, None, List, [], ◌∷◌, ◌++◌, length, take, drop}
use Rattle.rand_core.specs.Stream.{Stream}
use Rattle.sctp_state.specs.Options.{Options}
use Rattle.sctp_state.specs.Events.{Event, OnLifecycleEnd}
use Rattle.sctp_tx_outstanding.specs.Item.{Item}
use Rattle.sctp_tx_queue.specs.SendQueue.{Queued, Entries}
use Rattle.spec_endpoint.specs.Association.{State, Closed, CookieWait, Open, Context, EndpointState, Endpoint, fresh, Packing}
use Rattle.spec_endpoint.specs.Input.{in_endpoint_state}
use Rattle.spec_endpoint.specs.Laws.{Call, Send, SendMany, Restore, called}

-- ---- how often a lifecycle of this id ends

abbrev pub one_if : Bool → ℕ
one_if true = 1
one_if false = 0

abbrev pub end_count : {P : Type 0} → (l : ℕ) → Event P → ℕ
end_count l (OnLifecycleEnd id) = one_if (id == l)
end_count l e = 0

abbrev pub end_total : {P : Type 0} → (l : ℕ) → List (Event P) → ℕ
end_total l [] = 0
end_total l (e ∷ es) = end_count l e + end_total l es

-- ---- how many of this id are alive

abbrev pub lifecycle_count : (l : ℕ) → Option ℕ → ℕ
lifecycle_count l None = 0
lifecycle_count l (Some id) = one_if (id == l)

abbrev pub waiting : (l : ℕ) → List Queued → ℕ
waiting l [] = 0
waiting l (m ∷ ms) = lifecycle_count l m.lifecycle + waiting l ms

-- messages that wait or are partly sent
abbrev pub waiting_in : (l : ℕ) → Entries → ℕ
waiting_in l [] = 0
waiting_in l (e ∷ es) = waiting l e.1.messages + waiting_in l es

abbrev pub where_end : (is_end : Bool) → ℕ → ℕ
where_end true n = n
where_end false n = 0

-- ends of messages that are kept: their lifecycles end as they leave
abbrev pub kept_ends : (l : ℕ) → List Item → ℕ
kept_ends l [] = 0
kept_ends l (i ∷ is) = where_end i.fragment.is_end (lifecycle_count l i.lifecycle) + kept_ends l is

abbrev pub kept_in : (l : ℕ) → State → ℕ
kept_in l Closed = 0
kept_in l (CookieWait tag first t1) = 0
kept_in l (Open phase t) = kept_ends l t.sender.outstanding.items.kept

abbrev pub waiting_count : {P : Type 0} → (l : ℕ) → Context P → ℕ
waiting_count l c = waiting_in l c.queue.streams.entries

abbrev pub alive_count : {P : Type 0} → (l : ℕ) → EndpointState P → ℕ
alive_count l s = waiting_count l s.context + kept_in l s.state

-- ---- one call

-- how many messages of this id a call hands in, accepted or refused
abbrev pub handed_in_count : (l : ℕ) → Call → ℕ
handed_in_count l (Send m o) = lifecycle_count l o.lifecycle_id
handed_in_count l (SendMany ms o) = length ms * lifecycle_count l o.lifecycle_id
handed_in_count l call = 0

-- a restored end begins with what its record has
abbrev pub is_restore : Call → Bool
is_restore (Restore h) = true
is_restore call = false

-- What was emitted stands, and each end emitted behind it took a lifecycle that was alive or was handed in.
pub record EndsWithin {P : Type 0} (l handed : ℕ) (before after : EndpointState P) : Type 0 where
  pub events : List (Event P)
  pub behind : after.context.emitted.events ≡ before.context.emitted.events ++ events
  pub counted : end_total l events + alive_count l after ≤ alive_count l before + handed

-- ---- what a user does with an end

pub data Use : Type 0 where
  Calls : Call → Use
  TakesEvent : Use  -- the one that was emitted first

abbrev pub without_first : {P : Type 0} → EndpointState P → EndpointState P
without_first s = record s { context = record s.context { emitted = record s.context.emitted { events = drop 1 s.context.emitted.events } } }

abbrev pub after_use : {P : Type 0} → Use → Endpoint P → Endpoint P
after_use (Calls call) s = called call s
after_use TakesEvent s = in_endpoint_state without_first s

abbrev pub taken_events : {P : Type 0} → Use → Endpoint P → List (Event P)
taken_events (Calls call) s = []
taken_events TakesEvent s = take 1 s.endpoint_state.context.emitted.events

-- all that is emitted along these uses: what is taken, and what is left at last
abbrev pub emitted_along : {P : Type 0} → List Use → Endpoint P → List (Event P)
emitted_along [] s = s.endpoint_state.context.emitted.events
emitted_along (u ∷ us) s = taken_events u s ++ emitted_along us (after_use u s)

abbrev pub handed_by : (l : ℕ) → Use → ℕ
handed_by l (Calls call) = handed_in_count l call
handed_by l TakesEvent = 0

abbrev pub handed_along : (l : ℕ) → List Use → ℕ
handed_along l [] = 0
handed_along l (u ∷ us) = handed_by l u + handed_along l us

abbrev pub restores : Use → Bool
restores (Calls call) = is_restore call
restores TakesEvent = false

abbrev pub NoneRestores : List Use → Type 0
NoneRestores [] = Unit {0}
NoneRestores (u ∷ us) = (restores u ≡ false) × NoneRestores us

-- ---- the laws

abbrev pub EachCallEndsWithin : Type 0
EachCallEndsWithin =
    (l : ℕ) (call : Call) (s : Endpoint (List ℕ)) → is_restore call ≡ false → EndsWithin l (handed_in_count l call) s.endpoint_state (called call s).endpoint_state

-- of a new end no more ends are emitted than messages were handed in
abbrev pub EndsAreHandedIn : Type 0
EndsAreHandedIn =
    (l : ℕ) (o : Options) (pack : Packing (List ℕ)) (draws : Stream) (uses : List Use) → NoneRestores uses
    → end_total l (emitted_along uses (fresh o pack draws)) ≤ handed_along l uses

-- one at most, where no other message of the id was
abbrev pub NoLifecycleEndsTwice : Type 0
NoLifecycleEndsTwice =
    (l : ℕ) (o : Options) (pack : Packing (List ℕ)) (draws : Stream) (uses : List Use) → NoneRestores uses
    → handed_along l uses ≤ 1 → end_total l (emitted_along uses (fresh o pack draws)) ≤ 1
