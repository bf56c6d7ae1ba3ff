-- Where few numbers are used, all windows are kept.
use Rattle.std.proofs.Common.{◌≡◌, ℕ, ◌+◌, ◌-◌, ◌^◌, ◌<◌, ◌≤◌, List, [], ◌∷◌, ◌++◌, length, All, arith}
use Rattle.std.specs.Prelude.{⊤}
use Rattle.std.proofs.lemmas.List.Elements.{All-nil, All-cons}
use Rattle.sctp_serial.specs.Unwrapped.{origin}
use Rattle.sctp_tx_queue.specs.SendQueue.{Queue, stream}
use Rattle.sctp_tx_outstanding.specs.Item.{Item}
use Rattle.sctp_tx_outstanding.specs.OutstandingData.{next_number}
use Rattle.spec_endpoint.specs.Association.{Tcb, State, Closed, CookieWait, Open}
use Rattle.proof_delivery.specs.Answered.{NumberedBefore, none_asked, IsAnswered, performed_in}
use Rattle.proof_delivery.specs.Windows.{numbered_count, IsNearNext, IsWithin, Stamp, Stamps, no_stamps, IsYoung}
use Rattle.spec_world.specs.Observations.{End, A, B, Entry}
use Rattle.spec_world.specs.World.{World, Action, CallOf, Give, GiveForeign, AdvanceTime, Runs}
use Rattle.proof_world.specs.Consistent.{NoEndingIsLogged}
use Rattle.proof_world.specs.Delivered.{AlongRun, accepted_messages, emitted_events, WorldIsWithin, world_numbered, stamps_after, ActionIsTimely, WorldKeepsWindows, asked_after, WorldIsAnswered, WorldKeepsRequests, WorldIsInBounds}

-- ---- few numbers, as the ends hold them between events

-- so far fewer than 2^30 fragments, and on each stream fewer than 32,000 ordered messages; and no more items are kept
pub record NumbersFew (q : Queue) (t : Tcb) : Type 0 where
  pub fragments : next_number t.sender.outstanding.items < origin + 2 ^ 30
  pub items : length t.sender.outstanding.items.kept ≤ 2 ^ 30
  pub messages : (id : ℕ) → (stream id q.streams).next_ordered_mid < origin + 32000

abbrev pub AreFew : State → Queue → Type 0
AreFew Closed q = ⊤
AreFew (CookieWait tag first t1) q = ⊤
AreFew (Open phase t) q = NumbersFew q t

pub record WorldNumbersFew (w : World) : Type 0 where
  pub a : AreFew w.a.socket.endpoint_state.state w.a.socket.endpoint_state.context.queue
  pub b : AreFew w.b.socket.endpoint_state.state w.b.socket.endpoint_state.context.queue

-- until an end first emits that an association is over
pub record RunNumbersFew (actions : List Action) (w v : World) (runs : Runs actions w v) : Type 0 where
  pub numbers : AlongRun (λ u. NoEndingIsLogged u.log → WorldNumbersFew u) actions w v runs
  pub resets : (x : End) (early late : List Entry) → v.log ≡ early ++ late → NoEndingIsLogged early → performed_in (emitted_events x early) < 2 ^ 32 - 1
  pub accepted : (x : End) (early late : List Entry) → v.log ≡ early ++ late → NoEndingIsLogged early → length (accepted_messages x early) < 2 ^ 32

-- ---- an end

counted : (s : State) (q : Queue) → AreFew s q → numbered_count s < 2 ^ 30
counted Closed q h = omega arith
counted (CookieWait tag first t1) q h = omega arith
counted (Open phase t) q h = let few = h.fragments in omega (arith, few)

near : (q : Queue) (t : Tcb) → NumbersFew q t → (items : List Item) → All (IsNearNext q) items
near q t h [] = All-nil (IsNearNext q)
near q t h (i ∷ items) =
    All-cons (IsNearNext q) i items (λ ordered. let few = h.messages i.fragment.stream_id in omega (arith, few)) (near q t h items)

within : (s : State) (q : Queue) → AreFew s q → IsWithin s q
within Closed q h = tt
within (CookieWait tag first t1) q h = tt
within (Open phase t) q h = record {
  items = h.items;
  messages = near q t h t.sender.outstanding.items.kept;
  fragments = let few = h.fragments in omega (arith, few);
}

answered : (s : State) (q : Queue) (asked : ℕ) → AreFew s q → IsAnswered s asked
answered s q asked h = λ n waits. let few = counted s q h in omega (arith, few)

-- ---- a world

young : (w : World) (old : Stamp) → WorldNumbersFew w → IsYoung (world_numbered w) old
young w old h =
    let few_a = counted w.a.socket.endpoint_state.state w.a.socket.endpoint_state.context.queue h.a in
    let few_b = counted w.b.socket.endpoint_state.state w.b.socket.endpoint_state.context.queue h.b in
    record { a = omega (arith, few_a); b = omega (arith, few_b) }

timely : (action : Action) (w : World) (s : Stamps) → WorldNumbersFew w → ActionIsTimely action (world_numbered w) s
timely (Give packet A) w s h = λ old there. young w old h
timely (Give packet B) w s h = λ old there. young w old h
timely (CallOf x call) w s h = tt
timely (GiveForeign x bytes) w s h = tt
timely (AdvanceTime x now) w s h = tt

world_within : (w : World) → WorldNumbersFew w → WorldIsWithin w
world_within w h = record {
  a = within w.a.socket.endpoint_state.state w.a.socket.endpoint_state.context.queue h.a;
  b = within w.b.socket.endpoint_state.state w.b.socket.endpoint_state.context.queue h.b;
}

world_answered : (w : World) (k : NumberedBefore) → WorldNumbersFew w → WorldIsAnswered w k
world_answered w k h = record {
  a = answered w.a.socket.endpoint_state.state w.a.socket.endpoint_state.context.queue k.a h.a;
  b = answered w.b.socket.endpoint_state.state w.b.socket.endpoint_state.context.queue k.b h.b;
}

abbrev FewAlong : (actions : List Action) (w v : World) → Runs actions w v → Type 0
FewAlong actions w v r = AlongRun (λ u. NoEndingIsLogged u.log → WorldNumbersFew u) actions w v r

windows_kept : (actions : List Action) (w v : World) (r : Runs actions w v) (s : Stamps) → FewAlong actions w v r → WorldKeepsWindows actions w v r s
windows_kept [] w v r s h = λ st. world_within w (h st)
windows_kept (action ∷ actions) w v r s h =
    ((λ st. (world_within w (h.0 st), timely action w s (h.0 st))), windows_kept actions r.0 v r.2 (stamps_after w r.0 s) h.1)

requests_kept : (actions : List Action) (w v : World) (r : Runs actions w v) (k : NumberedBefore) → FewAlong actions w v r → WorldKeepsRequests actions w v r k
requests_kept [] w v r k h = λ st. world_answered w k (h st)
requests_kept (action ∷ actions) w v r k h = ((λ st. world_answered w k (h.0 st)), requests_kept actions r.0 v r.2 (asked_after w r.0 k) h.1)

pub few_in_bounds : (actions : List Action) (w v : World) (r : Runs actions w v) → RunNumbersFew actions w v r → WorldIsInBounds actions w v r
few_in_bounds actions w v r h = record {
  windows = windows_kept actions w v r no_stamps h.numbers;
  resets = record { answered = requests_kept actions w v r none_asked h.numbers; few = h.resets };
  few = h.accepted;
}
