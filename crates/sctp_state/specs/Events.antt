-- What a socket emits to its user, in order: events in one list, records of messages given up in another. The packets of
-- events are of a type P: bytes to the user, trees to the rules of the association.
use Rattle.std.specs.Prelude.{◌≡◌, ℕ, Option, Some, None, List, [], ◌∷◌, ◌++◌, map, length, take, string_bytes}
use Rattle.sctp_state.specs.declared.api.ErrorKind.{ErrorKind}
use Rattle.sctp_state.specs.declared.api.GivenUpCause.{GivenUpCause}
use Rattle.sctp_state.specs.declared.api.GivenUp as record_given
use Rattle.sctp_state.specs.declared.api.SocketEvent as given
use Rattle.sctp_state.specs.declared.events.EventMark.{EventMark}
use Rattle.sctp_state.specs.declared.api.SocketEvent.TheVariants as variants
use Rattle.sctp_serial.specs.declared.api.StreamId.{StreamId}

pub data Event (P : Type 0) : Type 0 where
  SendPacket : P → Event P
  OnConnected : Event P
  OnClosed : Event P
  OnConnectionRestarted : Event P
  OnAborted : ErrorKind → (text : List ℕ) → Event P
  OnError : ErrorKind → (text : List ℕ) → Event P
  OnBufferedAmountLow : (stream : ℕ) → Event P
  OnTotalBufferedAmountLow : Event P
  OnStreamsResetFailed : (streams : List ℕ) → Event P
  OnStreamsResetPerformed : (streams : List ℕ) → Event P
  OnIncomingStreamReset : (streams : List ℕ) → Event P
  OnLifecycleMessageFullySent : (id : ℕ) → Event P
  OnLifecycleMessageMaybeExpired : (id : ℕ) → Event P
  OnLifecycleMessageExpired : (id : ℕ) → Event P
  OnLifecycleMessageDelivered : (id : ℕ) → Event P
  OnLifecycleEnd : (id : ℕ) → Event P

abbrev pub numbers_of : List StreamId → List ℕ
numbers_of ids = map (λ id. id.0) ids

-- an event as the program has it
abbrev pub event_of : given.SocketEvent → Event (List ℕ)
event_of (variants.SendPacket bytes) = SendPacket bytes.items
event_of variants.OnConnected = OnConnected
event_of variants.OnClosed = OnClosed
event_of variants.OnConnectionRestarted = OnConnectionRestarted
event_of (variants.OnAborted kind text) = OnAborted kind (string_bytes text)
event_of (variants.OnError kind text) = OnError kind (string_bytes text)
event_of (variants.OnBufferedAmountLow id) = OnBufferedAmountLow id.0
event_of variants.OnTotalBufferedAmountLow = OnTotalBufferedAmountLow
event_of (variants.OnStreamsResetFailed ids) = OnStreamsResetFailed (numbers_of ids.items)
event_of (variants.OnStreamsResetPerformed ids) = OnStreamsResetPerformed (numbers_of ids.items)
event_of (variants.OnIncomingStreamReset ids) = OnIncomingStreamReset (numbers_of ids.items)
event_of (variants.OnLifecycleMessageFullySent id) = OnLifecycleMessageFullySent id
event_of (variants.OnLifecycleMessageMaybeExpired id) = OnLifecycleMessageMaybeExpired id
event_of (variants.OnLifecycleMessageExpired id) = OnLifecycleMessageExpired id
event_of (variants.OnLifecycleMessageDelivered id) = OnLifecycleMessageDelivered id
event_of (variants.OnLifecycleEnd id) = OnLifecycleEnd id

-- a message that was given up, by its place in the order of acceptance
pub record GivenUp : Type 0 where
  pub number : ℕ
  pub cause : GivenUpCause

abbrev pub given_up_of : record_given.GivenUp → GivenUp
given_up_of g = record { number = g.number.0; cause = g.cause }

-- ---- what was emitted and is not taken yet

pub record Emitted (P : Type 0) : Type 0 where
  pub events : List (Event P)
  pub given_up : List GivenUp

abbrev pub nothing_emitted : {P : Type 0} → Emitted P
nothing_emitted = record { events = []; given_up = [] }

abbrev pub emit_event : {P : Type 0} → Event P → Emitted P → Emitted P
emit_event e t = record t { events = t.events ++ e ∷ [] }

abbrev pub emit_events : {P : Type 0} → List (Event P) → Emitted P → Emitted P
emit_events es t = record t { events = t.events ++ es }

abbrev pub emit_record : {P : Type 0} → GivenUp → Emitted P → Emitted P
emit_record g t = record t { given_up = t.given_up ++ g ∷ [] }

abbrev pub emit_given_up : {P : Type 0} → ℕ → GivenUpCause → Emitted P → Emitted P
emit_given_up n cause t = emit_record (record { number = n; cause = cause }) t

-- the two events of a message with a lifecycle id that is dropped
abbrev pub expired_events : {P : Type 0} → Option ℕ → List (Event P)
expired_events None = []
expired_events (Some id) = OnLifecycleMessageExpired id ∷ OnLifecycleEnd id ∷ []

-- the first of a list
abbrev pub first_of : {X : Type 0} → List X → Option X
first_of [] = None
first_of (x ∷ xs) = Some x

-- ---- what was emitted since a moment is taken back

abbrev pub mark_of : {P : Type 0} → Emitted P → EventMark
mark_of t = record { events = length t.events; given_up = length t.given_up }

abbrev pub rolled_back : {P : Type 0} → EventMark → Emitted P → Emitted P
rolled_back m t = record { events = take m.events t.events; given_up = take m.given_up t.given_up }

-- what was emitted stands, and more may stand behind it
pub record Grown {P : Type 0} (old now : Emitted P) : Type 0 where
  pub events : take (length old.events) now.events ≡ old.events
  pub given_up : take (length old.given_up) now.given_up ≡ old.given_up
