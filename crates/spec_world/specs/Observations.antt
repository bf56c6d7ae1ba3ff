-- What is observed of two ends: the log, and what is read off it alone.
use Rattle.std.specs.Prelude.{ℕ, ◌+◌, ◌==◌, ◌&&◌, Bool, true, false, Option, Some, None, List, [], ◌∷◌, length, codes}
use Rattle.std.specs.List.{flat_map, list_any}
use Rattle.sctp_serial.specs.Messages.{Message}
use Rattle.sctp_state.specs.declared.api.errors.SendError.{SendError}
use Rattle.sctp_state.specs.declared.api.errors.ResetStreamsError.{ResetStreamsError}
use Rattle.sctp_state.specs.Handover.{HandoverState}
use Rattle.sctp_state.specs.Options.{SendOptions}
use Rattle.sctp_state.specs.Events.{Event, OnConnected, GivenUp}
use Rattle.spec_endpoint.specs.Shown.{Association}

pub data End : Type 0 where
  A : End
  B : End

abbrev pub end_name : End → List ℕ
end_name A = codes "a"
end_name B = codes "b"

-- ---- associations: own tag and first TSN, and the peer's

-- the halves exchanged
abbrev pub mirrored : Association → Association
mirrored a = record {
  my_tag = a.peer_tag;
  my_initial_tsn = a.peer_initial_tsn;
  peer_tag = a.my_tag;
  peer_initial_tsn = a.my_initial_tsn;
}

abbrev pub same_numbers : Association → Association → Bool
same_numbers a b =
    (a.my_tag == b.my_tag) && ((a.my_initial_tsn == b.my_initial_tsn) && ((a.peer_tag == b.peer_tag) && (a.peer_initial_tsn == b.peer_initial_tsn)))

abbrev pub same_association : Option Association → Option Association → Bool
same_association None None = true
same_association None (Some b) = false
same_association (Some a) None = false
same_association (Some a) (Some b) = same_numbers a b

-- ---- calls and their answers

pub data Call : Type 0 where
  Connect : Call
  Shutdown : Call
  Close : Call
  Send : Message → SendOptions → Call
  SendMany : List Message → SendOptions → Call
  TakeMessage : Call
  Reset : (streams : List ℕ) → Call
  SetPriority : (stream priority : ℕ) → Call
  SetMaxMessageSize : (bytes : ℕ) → Call
  SetLowThreshold : (stream bytes : ℕ) → Call
  HandOver : Call

pub data Answer : Type 0 where
  Done : Answer
  Sent : (refused : Option SendError) → Answer
  SentMany : (refused : List (ℕ × SendError)) → Answer  -- by their indices in the batch
  TookMessage : Option Message → Answer
  AskedReset : (refused : Option ResetStreamsError) → Answer
  HandedOver : HandoverState → Answer
  NotReady : (readiness : ℕ) → Answer

-- ---- the log: for each event the call, packet or moment, with the end's clock; an association that changed;
-- what was emitted, in order, each packet by its number; what was given up; what became ready

pub data Entry : Type 0 where
  Called : End → (clock : ℕ) → Call → Answer → Entry
  Given : End → (clock : ℕ) → (packet : ℕ) → Entry
  Foreign : End → (clock : ℕ) → Option (List ℕ) → Entry  -- bytes from elsewhere, or none where they were withheld
  Timed : End → (clock : ℕ) → (now : ℕ) → Entry
  Associated : End → Option Association → Entry
  EmittedPacket : End → (packet : ℕ) → Entry
  EmittedEvent : End → Event (List ℕ) → Entry
  GaveUp : End → GivenUp → Entry
  BecameReady : End → Message → Entry

abbrev pub same_end : End → End → Bool
same_end A A = true
same_end A B = false
same_end B A = false
same_end B B = true

-- ---- read off it

abbrev pub none_unless : {X : Type 0} → Bool → X → List X
none_unless true x = x ∷ []
none_unless false x = []

abbrev pub some_unless : {X : Type 0} → Bool → X → List X → List X
some_unless true x xs = xs
some_unless false x xs = x ∷ xs

abbrev pub all_if : {X : Type 0} → Bool → List X → List X
all_if true xs = xs
all_if false xs = []

-- those of a batch that weren't refused
abbrev pub unrefused : (place : ℕ) → List Message → List (ℕ × SendError) → List Message
unrefused place [] refused = []
unrefused place (m ∷ ms) refused = some_unless (list_any (λ r. r.0 == place) refused) m (unrefused (place + 1) ms refused)

abbrev pub accepted_in : Call → Answer → List Message
accepted_in (Send m options) (Sent None) = m ∷ []
accepted_in (SendMany ms options) (SentMany refused) = unrefused 0 ms refused
accepted_in call answer = []

abbrev pub accepted_by : End → Entry → List Message
accepted_by x (Called y clock call answer) = all_if (same_end x y) (accepted_in call answer)
accepted_by x entry = []

-- the messages that this end accepted, by their places
abbrev pub accepted : End → List Entry → List Message
accepted x log = flat_map (accepted_by x) log

abbrev pub ready_by : End → Entry → List Message
ready_by x (BecameReady y m) = none_unless (same_end x y) m
ready_by x entry = []

-- the messages that became ready at this end, in order
abbrev pub ready : End → List Entry → List Message
ready x log = flat_map (ready_by x) log

abbrev pub handed_out_in : Answer → List Message
handed_out_in (TookMessage (Some m)) = m ∷ []
handed_out_in answer = []

abbrev pub handed_out_by : End → Entry → List Message
handed_out_by x (Called y clock call answer) = all_if (same_end x y) (handed_out_in answer)
handed_out_by x entry = []

-- those that it handed out
abbrev pub handed_out : End → List Entry → List Message
handed_out x log = flat_map (handed_out_by x) log

abbrev pub given_up_by : End → Entry → List GivenUp
given_up_by x (GaveUp y g) = none_unless (same_end x y) g
given_up_by x entry = []

-- what it gave up
abbrev pub given_up : End → List Entry → List GivenUp
given_up x log = flat_map (given_up_by x) log

abbrev pub connected_by : End → Entry → List End
connected_by x (EmittedEvent y OnConnected) = none_unless (same_end x y) y
connected_by x entry = []

-- how often this end emitted that it is connected
abbrev pub times_connected : End → List Entry → ℕ
times_connected x log = length (flat_map (connected_by x) log)

abbrev pub newer : Bool → Option Association → Option Association → Option Association
newer true new old = new
newer false new old = old

abbrev pub held_after : End → Option Association → Entry → Option Association
held_after x held (Associated y a) = newer (same_end x y) a held
held_after x held entry = held

abbrev pub held_from : End → Option Association → List Entry → Option Association
held_from x held [] = held
held_from x held (entry ∷ log) = held_from x (held_after x held entry) log

-- the association that this end holds: the last one that the log has
abbrev pub held : End → List Entry → Option Association
held x log = held_from x None log
