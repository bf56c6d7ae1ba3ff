-- What was emitted and isn't handed out, and what C sees of it.
use Rattle.std.specs.Prelude.{◌≡◌, ◌<◌, ℕ, Option, Some, None, List, [], ◌∷◌, option_map, length, take}
use Rattle.sctp_serial.specs.Messages.{Message}
use Rattle.sctp_state.specs.declared.api.SocketEvent.{SocketEvent}
use Rattle.sctp_state.specs.Events.{Event, GivenUp, event_of}
use Rattle.sctp_association.specs.Socket.{SocketValue}
use Rattle.sctp_c_records.specs.declared.message.MessageRecord.{MessageRecord}
use Rattle.sctp_c_records.specs.Event.{bytes_of, event_bytes, record_of}

abbrev pub waiting_first : Option (Event (List ℕ)) → List (Event (List ℕ)) → List (Event (List ℕ))
waiting_first None events = events
waiting_first (Some event) events = event ∷ events

-- the event that is kept, and those of the socket
abbrev pub waiting : {R C : Type 0} → Option SocketEvent → SocketValue R C → List (Event (List ℕ))
waiting kept s = waiting_first (option_map event_of kept) s.context.emitted.events

abbrev pub with_events : {R C : Type 0} → SocketValue R C → List (Event (List ℕ)) → SocketValue R C
with_events s events = let c = s.context in record s { context = record c { emitted = record c.emitted { events = events } } }

abbrev pub with_given_up : {R C : Type 0} → SocketValue R C → List GivenUp → SocketValue R C
with_given_up s records = let c = s.context in record s { context = record c { emitted = record c.emitted { given_up = records } } }

-- the first event was handed out: its struct was written, and its bytes stand at the front of the buffer
abbrev pub Shows : (old new : List ℕ) → (buffer : List ℕ) → List (Event (List ℕ)) → Type 0
Shows old new buffer [] = ⊥
Shows old new buffer (e ∷ es) = (new ≡ event_bytes (record_of e) old) × (take (length (bytes_of e)) buffer ≡ bytes_of e)

-- the first event was handed out: its struct was written, and these are its bytes
abbrev pub ShowsAll : (old new : List ℕ) → (bytes : List ℕ) → List (Event (List ℕ)) → Type 0
ShowsAll old new bytes [] = ⊥
ShowsAll old new bytes (e ∷ es) = (new ≡ event_bytes (record_of e) old) × (bytes ≡ bytes_of e)

-- the first event needs a longer buffer than one of this length, and its struct says how long
abbrev pub Needs : (old new : List ℕ) → (room : ℕ) → List (Event (List ℕ)) → Type 0
Needs old new room [] = ⊥
Needs old new room (e ∷ es) = (new ≡ event_bytes (record_of e) old) × (room < length (bytes_of e))

abbrev pub message_record : Message → MessageRecord
message_record m = record { stream = m.stream; ppid = m.ppid; length = length m.payload }

-- the same of messages
abbrev pub HasMessage : MessageRecord → (buffer : List ℕ) → List Message → Type 0
HasMessage head buffer [] = ⊥
HasMessage head buffer (m ∷ ms) = (head ≡ message_record m) × (take (length m.payload) buffer ≡ m.payload)

abbrev pub HasAll : MessageRecord → (bytes : List ℕ) → List Message → Type 0
HasAll head bytes [] = ⊥
HasAll head bytes (m ∷ ms) = (head ≡ message_record m) × (bytes ≡ m.payload)

abbrev pub NeedsMore : MessageRecord → (room : ℕ) → List Message → Type 0
NeedsMore head room [] = ⊥
NeedsMore head room (m ∷ ms) = (head ≡ message_record m) × (room < length m.payload)
