-- Messages that become ready at an end of a world are those that the other end accepted, and what became of the others: premises
-- and claim are read off the log, the actions and the values that the sockets hold between them.
use Rattle.std.specs.Prelude.{◌≡◌, ℕ, ◌+◌, ◌-◌, ◌^◌, ◌<◌, ◌≤◌, Bool, true, false, Some, None, List, [], ◌∷◌, ◌++◌, length, map, take, replicate, slice_get, slice_index, ⊤}
use Rattle.std.specs.List.{flat_map}
use Rattle.sctp_serial.specs.Messages.{Message}
use Rattle.sctp_state.specs.Events.{Event, OnLifecycleMessageDelivered, GivenUp}
use Rattle.proof_protocol.specs.State.{has}
use Rattle.proof_refines.specs.Records.{are_distinct}
use Rattle.proof_delivery.specs.Accepted.{AcceptedMessage}
use Rattle.proof_delivery.specs.Answered.{NumberedBefore, none_asked, numbered_before, IsAnswered, performed_in}
use Rattle.proof_delivery.specs.Justified.{reset_unless}
use Rattle.proof_delivery.specs.StreamEpochs.{StreamEpoch, all_open, shut_streams, reopen, performed_of, epochs_of, resets_emitted}
use Rattle.proof_delivery.specs.Windows.{numbered_count, left_count, IsWithin, Stamp, Stamps, no_stamps, IsYoung}
use Rattle.proof_delivery.specs.Delivery.{Fits, SkippedAreGivenUp, IsReady, AllAreDone}
use Rattle.spec_world.specs.Observations.{End, A, B, same_end, none_unless, all_if, Call, Send, SendMany, Reset, Answer, Sent, SentMany, AskedReset, unrefused, Entry, Called, Given, Foreign, Timed, EmittedEvent, BecameReady, accepted, ready, given_up}
use Rattle.spec_world.specs.World.{Side, World, Action, Give, Runs, other, is_at_rest}
use Rattle.proof_world.specs.Consistent.{NoEndingIsLogged}

-- ---- what was accepted, with the options of its sending

abbrev pub accepted_messages_in : Call → Answer → List AcceptedMessage
accepted_messages_in (Send m options) (Sent None) = record { message = m; options = options } ∷ []
accepted_messages_in (SendMany ms options) (SentMany refused) = map (λ (m : Message). record { message = m; options = options }) (unrefused 0 ms refused)
accepted_messages_in call answer = []

abbrev pub accepted_messages_by : End → Entry → List AcceptedMessage
accepted_messages_by x (Called y clock call answer) = all_if (same_end x y) (accepted_messages_in call answer)
accepted_messages_by x entry = []

abbrev pub accepted_messages : End → List Entry → List AcceptedMessage
accepted_messages x log = flat_map (accepted_messages_by x) log

-- ---- what an end emitted, but for packets

abbrev pub emitted_events_by : End → Entry → List (Event (List ℕ))
emitted_events_by x (EmittedEvent y event) = none_unless (same_end x y) event
emitted_events_by x entry = []

abbrev pub emitted_events : End → List Entry → List (Event (List ℕ))
emitted_events x log = flat_map (emitted_events_by x) log

-- ---- the epochs of its streams

-- the streams that a call resets: its answer is Ok
abbrev pub reset_in : Call → Answer → List ℕ
reset_in (Reset streams) (AskedReset refused) = reset_unless refused streams
reset_in call answer = []

abbrev pub reset_by : End → Entry → List ℕ
reset_by x (Called y clock call answer) = all_if (same_end x y) (reset_in call answer)
reset_by x entry = []

-- such a call shuts those that are open, and they are open again once the end emits that they were reset
abbrev pub epochs_after : End → Entry → (ℕ → StreamEpoch) → ℕ → StreamEpoch
epochs_after x entry f = reopen (performed_of (emitted_events_by x entry)) (shut_streams (reset_by x entry) f)

-- the epoch of each message that was accepted, in their order
abbrev pub message_epochs : End → List Entry → (ℕ → StreamEpoch) → List ℕ
message_epochs x [] f = []
message_epochs x (entry ∷ log) f = epochs_of (accepted_messages_by x entry) f ++ message_epochs x log (epochs_after x entry f)

-- ---- what became of them, as the end that accepted them reports

-- the places of those that it gave up
abbrev pub given_up_places : End → List Entry → List ℕ
given_up_places x log = map (λ (g : GivenUp). g.number) (given_up x log)

abbrev pub reported_by : End → Entry → List ℕ
reported_by x (EmittedEvent y (OnLifecycleMessageDelivered id)) = none_unless (same_end x y) id
reported_by x entry = []

-- the lifecycle ids of those that it reported as delivered
abbrev pub reported : End → List Entry → List ℕ
reported x log = flat_map (reported_by x) log

-- ---- windows along a run

abbrev pub SideIsWithin : Side → Type 0
SideIsWithin side = IsWithin side.socket.endpoint_state.state side.socket.endpoint_state.context.queue

pub record WorldIsWithin (w : World) : Type 0 where
  pub a : SideIsWithin w.a
  pub b : SideIsWithin w.b

-- how many fragments each end has numbered
abbrev pub world_numbered : World → Stamp
world_numbered w = record { a = numbered_count w.a.socket.endpoint_state.state; b = numbered_count w.b.socket.endpoint_state.state }

-- Of a packet that this end emitted: how many each end kept no more before that event, none of which it carries; and of its own end 2^30
-- more, as many as that end may keep.
abbrev pub world_stamp : End → World → Stamp
world_stamp A w = record { a = left_count w.a.socket.endpoint_state.state + 2 ^ 30; b = left_count w.b.socket.endpoint_state.state }
world_stamp B w = record { a = left_count w.a.socket.endpoint_state.state; b = left_count w.b.socket.endpoint_state.state + 2 ^ 30 }

-- those of all packets
abbrev pub stamp_packets : (before after : Side) → Stamp → List Stamp → List Stamp
stamp_packets x y s stamps = stamps ++ replicate (length y.packets - length x.packets) s

abbrev pub stamps_after : (w u : World) → Stamps → Stamps
stamps_after w u s = record { of_a = stamp_packets w.a u.a (world_stamp A w) s.of_a; of_b = stamp_packets w.b u.b (world_stamp B w) s.of_b }

-- no packet is given once an end has numbered 2^31 fragments from there on
abbrev pub ActionIsTimely : Action → (now : Stamp) → Stamps → Type 0
ActionIsTimely (Give packet A) now s = (old : Stamp) → slice_get s.of_b packet ≡ Some old → IsYoung now old
ActionIsTimely (Give packet B) now s = (old : Stamp) → slice_get s.of_a packet ≡ Some old → IsYoung now old
ActionIsTimely action now s = ⊤

-- at each world in which no association is over
abbrev pub WorldKeepsWindows : (actions : List Action) (w v : World) → Runs actions w v → Stamps → Type 0
WorldKeepsWindows [] w v r s = NoEndingIsLogged w.log → WorldIsWithin w
WorldKeepsWindows (action ∷ actions) w v r s =
    (NoEndingIsLogged w.log → WorldIsWithin w × ActionIsTimely action (world_numbered w) s) × WorldKeepsWindows actions r.0 v r.2 (stamps_after w r.0 s)

-- ---- requests to reset streams, along a run

-- how many fragments each end had numbered before the event that started the request which waits
abbrev pub asked_after : (w u : World) → NumberedBefore → NumberedBefore
asked_after w u k = record {
  a = numbered_before w.a.socket.endpoint_state.state u.a.socket.endpoint_state.state k.a;
  b = numbered_before w.b.socket.endpoint_state.state u.b.socket.endpoint_state.state k.b;
}

pub record WorldIsAnswered (w : World) (k : NumberedBefore) : Type 0 where
  pub a : IsAnswered w.a.socket.endpoint_state.state k.a
  pub b : IsAnswered w.b.socket.endpoint_state.state k.b

-- at each world in which no association is over
abbrev pub WorldKeepsRequests : (actions : List Action) (w v : World) → Runs actions w v → NumberedBefore → Type 0
WorldKeepsRequests [] w v r k = NoEndingIsLogged w.log → WorldIsAnswered w k
WorldKeepsRequests (action ∷ actions) w v r k = (NoEndingIsLogged w.log → WorldIsAnswered w k) × WorldKeepsRequests actions r.0 v r.2 (asked_after w r.0 k)

-- none waits too long, and not too many are reported as performed
pub record WorldKeepsResets (actions : List Action) (w v : World) (runs : Runs actions w v) : Type 0 where
  pub answered : WorldKeepsRequests actions w v runs none_asked
  pub few : (x : End) (early late : List Entry) → v.log ≡ early ++ late → NoEndingIsLogged early → performed_in (emitted_events x early) < 2 ^ 32 - 1

-- ---- each message becomes ready in its epoch

-- the first entry of an event
abbrev pub begins_event : Entry → Bool
begins_event (Called x clock call answer) = true
begins_event (Given x clock packet) = true
begins_event (Foreign x clock bytes) = true
begins_event (Timed x clock now) = true
begins_event entry = false

-- Of a message on this stream, which end x accepted at this place, and which becomes ready next behind this log: its epoch lies between
-- the resets of the stream that the other end emitted before this event, as before any other so far, and those that it emitted up to here.
pub record IsInItsEpoch (x : End) (log : List Entry) (stream place : ℕ) : Type 0 where
  pub epoch : ℕ
  pub its_own : slice_get (message_epochs x log all_open) place ≡ Some epoch
  pub least : (before behind : List Entry) (first : Entry) → log ≡ before ++ first ∷ behind → begins_event first ≡ true
      → resets_emitted stream (emitted_events (other x) before) ≤ epoch
  pub most : epoch ≤ resets_emitted stream (emitted_events (other x) log)

-- ---- the law

-- at each world of a run, between its events
abbrev pub AlongRun : (World → Type 0) → (actions : List Action) (w v : World) → Runs actions w v → Type 0
AlongRun P [] w v r = P w
AlongRun P (action ∷ actions) w v r = P w × AlongRun P actions r.0 v r.2

-- of the places of what becomes ready, those of what is ready so far
abbrev pub ready_places : End → List Entry → (places : List ℕ) → List ℕ
ready_places x log places = take (length (ready (other x) log)) places

-- Of what end x accepted: one list of places serves all along the log, until an end first emits that an association is over. At each
-- point its beginning fits; each message becomes ready in its epoch; an ordered message that isn't ready, while a later one of its
-- stream is, was given up; and each id that x reported as delivered is that of a ready message. Between events, no two records of x name
-- the same message; and where nothing is queued at x and no item kept, each message is ready or was given up.
pub record WorldDelivers (x : End) (actions : List Action) (w v : World) (runs : Runs actions w v) : Type 0 where
  pub places : List ℕ
  pub fits : (early late : List Entry) → v.log ≡ early ++ late → NoEndingIsLogged early → Fits (accepted_messages x early) (ready (other x) early) (ready_places x early places)
  pub epochs : (early late : List Entry) (m : Message) → v.log ≡ early ++ BecameReady (other x) m ∷ late → NoEndingIsLogged early
      → IsInItsEpoch x early m.stream (slice_index places (length (ready (other x) early)))
  pub skipped : (early late : List Entry) → v.log ≡ early ++ late → NoEndingIsLogged early → SkippedAreGivenUp (accepted_messages x early) (given_up_places x early) (ready_places x early places)
  pub reports : (early late : List Entry) → v.log ≡ early ++ late → NoEndingIsLogged early → (id : ℕ) → has id (reported x early) ≡ true
      → IsReady (accepted_messages x early) (ready_places x early places) id
  pub once : AlongRun (λ u. NoEndingIsLogged u.log → are_distinct (given_up_places x u.log) ≡ true) actions w v runs
  pub rest : AlongRun (λ u. NoEndingIsLogged u.log → is_at_rest x u ≡ true → AllAreDone (accepted_messages x u.log) (given_up_places x u.log) (ready_places x u.log places)) actions w v runs

-- what a run has to keep until then
pub record WorldIsInBounds (actions : List Action) (w v : World) (runs : Runs actions w v) : Type 0 where
  pub windows : WorldKeepsWindows actions w v runs no_stamps
  pub resets : WorldKeepsResets actions w v runs
  pub few : (x : End) (early late : List Entry) → v.log ≡ early ++ late → NoEndingIsLogged early → length (accepted_messages x early) < 2 ^ 32

-- without their options, they are the messages that `accepted` reads off the log
abbrev pub AcceptedMessagesAgree : Type 0
AcceptedMessagesAgree = (x : End) (log : List Entry) → accepted x log ≡ map (λ (o : AcceptedMessage). o.message) (accepted_messages x log)

-- each of them has an epoch
abbrev pub AcceptedMessagesHaveEpochs : Type 0
AcceptedMessagesHaveEpochs = (x : End) (log : List Entry) → length (message_epochs x log all_open) ≡ length (accepted_messages x log)
