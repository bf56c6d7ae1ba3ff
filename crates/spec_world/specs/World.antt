-- Two ends and all packets between them: what each event does, and what it adds to the log.
use Rattle.std.specs.Prelude.{◌≡◌, ℕ, zero, suc, ◌+◌, ◌≤◌, All, Bool, true, false, Option, Some, None, List, [], ◌∷◌, ◌++◌, length, map, drop, slice_get}
use Rattle.rand_core.specs.Stream.{Stream}
use Rattle.sctp_serial.specs.Messages.{Message}
use Rattle.sctp_state.specs.Options.{Options}
use Rattle.sctp_state.specs.Events.{Event, SendPacket, first_of, GivenUp}
use Rattle.spec_endpoint.specs.Association.{Endpoint, fresh}
use Rattle.spec_endpoint.specs.Calls.{shown_state, send_refusal_of, refusals, ready_at}
use Rattle.spec_endpoint.specs.Handover.{readiness, handed_over}
use Rattle.spec_endpoint.specs.StreamReset.{reset_refusal}
use Rattle.spec_endpoint.specs.Laws as table
use Rattle.spec_endpoint.specs.Laws.{called}
use Rattle.spec_endpoint.specs.Shown.{Association, association_in}
use Rattle.spec_endpoint.specs.Receiving.{Receives, Judges}
use Rattle.spec_endpoint.specs.Shown as socket
use Rattle.spec_endpoint.specs.Wire.{writing}
use Rattle.spec_world.specs.Observations.{End, A, B, same_association, Call, Connect, Shutdown, Close, Send, SendMany, TakeMessage, Reset, SetPriority, SetMaxMessageSize, SetLowThreshold, HandOver, Answer, Done, Sent, SentMany, TookMessage, AskedReset, HandedOver, NotReady, Entry, Called, Given, Foreign, Timed, Associated, EmittedPacket, EmittedEvent, GaveUp, BecameReady}
use Rattle.spec_endpoint.specs.Packets.{packets_in, drained}

-- an end, with the packets that it ever sent
pub record Side : Type 0 where
  pub socket : Endpoint (List ℕ)
  pub packets : List (List ℕ)

pub record World : Type 0 where
  pub a : Side
  pub b : Side
  pub log : List Entry

abbrev pub fresh_side : Options → Stream → (List ℕ → ℕ) → Side
fresh_side o draws word_of = record { socket = fresh o (writing word_of) draws; packets = [] }

abbrev pub fresh_world : (options_a options_b : Options) (draws_a draws_b : Stream) (word_of_a word_of_b : List ℕ → ℕ) → World
fresh_world options_a options_b draws_a draws_b word_of_a word_of_b =
    record { a = fresh_side options_a draws_a word_of_a; b = fresh_side options_b draws_b word_of_b; log = [] }

pub data Action : Type 0 where
  CallOf : End → Call → Action
  Give : (packet : ℕ) → End → Action
  GiveForeign : End → List ℕ → Action
  AdvanceTime : End → (now : ℕ) → Action

-- ---- what an event leaves of a side, and what it adds to the log

-- what was emitted, the first packet with this number
abbrev pub emitted_entries : End → ℕ → List (Event (List ℕ)) → List Entry
emitted_entries x n [] = []
emitted_entries x n (SendPacket bytes ∷ events) = EmittedPacket x n ∷ emitted_entries x (n + 1) events
emitted_entries x n (event ∷ events) = EmittedEvent x event ∷ emitted_entries x n events

abbrev pub given_up_entries : End → List GivenUp → List Entry
given_up_entries x records = map (GaveUp x) records

abbrev pub clock : Endpoint (List ℕ) → ℕ
clock s = s.endpoint_state.context.now

abbrev pub association : Endpoint (List ℕ) → Option Association
association s = association_in s.endpoint_state.state

abbrev pub associated_unless : Bool → End → Option Association → List Entry
associated_unless true x a = []
associated_unless false x a = Associated x a ∷ []

abbrev pub association_entries : End → Option Association → Option Association → List Entry
association_entries x old new = associated_unless (same_association old new) x new

-- the messages behind the first n
abbrev pub ready_entries : End → ℕ → List Message → List Entry
ready_entries x n messages = map (BecameReady x) (drop n messages)

-- How many messages were ready before: none, where another association took the place of the old one.
abbrev pub ready_before : Bool → ℕ → ℕ
ready_before true n = n
ready_before false n = 0

-- what an end with this association and so many ready messages adds to the log, once it is as the other one
abbrev pub news : End → (packets ready : ℕ) → Option Association → Endpoint (List ℕ) → List Entry
news x packets ready old s =
    association_entries x old (association s)
    ++ (emitted_entries x packets s.endpoint_state.context.emitted.events
    ++ (given_up_entries x s.endpoint_state.context.emitted.given_up
    ++ ready_entries x (ready_before (same_association old (association s)) ready) (ready_at s)))

abbrev pub news_of : End → Side → Endpoint (List ℕ) → List Entry
news_of x side s = news x (length side.packets) (length (ready_at side.socket)) (association side.socket) s

abbrev pub take_emitted : Side → Endpoint (List ℕ) → Side
take_emitted side s = record { socket = drained s; packets = side.packets ++ packets_in s.endpoint_state.context.emitted.events }

abbrev pub side_of : End → World → Side
side_of A w = w.a
side_of B w = w.b

-- nothing is queued and no item kept
abbrev pub is_at_rest : End → World → Bool
is_at_rest x w = let s = (side_of x w).socket.endpoint_state in socket.is_at_rest s.state s.context.queue

abbrev pub other : End → End
other A = B
other B = A

abbrev pub with_side : End → Side → List Entry → World → World
with_side A side log w = record w { a = side; log = log }
with_side B side log w = record w { b = side; log = log }

-- an end went on to s, and this entry says so
abbrev pub record_news : End → Entry → Endpoint (List ℕ) → World → World
record_news x first s w = with_side x (take_emitted (side_of x w) s) (w.log ++ first ∷ news_of x (side_of x w) s) w

-- ---- calls and moments

-- the same call, of the table of steps
abbrev pub table_call : Call → table.Call
table_call Connect = table.Connect
table_call Shutdown = table.Shutdown
table_call Close = table.Close
table_call (Send m options) = table.Send m options
table_call (SendMany ms options) = table.SendMany ms options
table_call TakeMessage = table.TakeMessage
table_call (Reset streams) = table.ResetStreams streams
table_call (SetPriority stream priority) = table.SetPriority stream priority
table_call (SetMaxMessageSize bytes) = table.SetMaxMessageSize bytes
table_call (SetLowThreshold stream bytes) = table.SetLowThreshold stream bytes
table_call HandOver = table.HandOver

-- an end after a call
abbrev pub after_call : Call → Endpoint (List ℕ) → Endpoint (List ℕ)
after_call call s = called (table_call call) s

-- the record, where nothing stands in the way
abbrev pub handed_by : (readiness : ℕ) → Endpoint (List ℕ) → Answer
handed_by zero s = HandedOver (handed_over s.endpoint_state)
handed_by (suc n) s = NotReady (suc n)

abbrev pub answer_to : Call → Endpoint (List ℕ) → Answer
answer_to Connect s = Done
answer_to Shutdown s = Done
answer_to Close s = Done
answer_to (Send m options) s = Sent (send_refusal_of m s.endpoint_state)
answer_to (SendMany ms options) s = SentMany (refusals 0 ms options (shown_state s.endpoint_state.state) s.endpoint_state.context)
answer_to TakeMessage s = TookMessage (first_of (ready_at s))
answer_to (Reset streams) s = AskedReset (reset_refusal s.endpoint_state.state)
answer_to (SetPriority stream priority) s = Done
answer_to (SetMaxMessageSize bytes) s = Done
answer_to (SetLowThreshold stream bytes) s = Done
answer_to HandOver s = handed_by (readiness s.endpoint_state) s

-- the call with its answer
abbrev pub call_entry : End → Call → Endpoint (List ℕ) → Entry
call_entry x call s = Called x (clock s) call (answer_to call s)

abbrev pub call_socket : End → Call → World → World
call_socket x call w = record_news x (call_entry x call (side_of x w).socket) (after_call call (side_of x w).socket) w

abbrev pub after_time : ℕ → Endpoint (List ℕ) → Endpoint (List ℕ)
after_time now s = called (table.Advance now) s

abbrev pub time_entry : End → ℕ → Endpoint (List ℕ) → Entry
time_entry x now s = Timed x (clock (after_time now s)) now

abbrev pub advance_time : End → ℕ → World → World
advance_time x now w = record_news x (time_entry x now (side_of x w).socket) (after_time now (side_of x w).socket) w

-- ---- packets

-- an end makes of bytes what its own checksum says
abbrev pub Takes : (bytes : List ℕ) → (s t : Endpoint (List ℕ)) → Type 0
Takes bytes s t = Receives s.endpoint_state.context.pack.word_of bytes s t

-- an end takes bytes: what becomes of it and of the log, behind the first entry
pub record TakesBytes (x : End) (first : Entry) (bytes : List ℕ) (old new : Side) (log longer : List Entry) : Type 0 where
  pub after : Endpoint (List ℕ)
  pub takes : Takes bytes old.socket after
  pub side : new ≡ take_emitted old after
  pub logged : longer ≡ log ++ first ∷ news_of x old after

-- a packet of the other end is given to this one
pub record Gives (x : End) (packet : ℕ) (w v : World) : Type 0 where
  pub bytes : List ℕ
  pub there : slice_get (side_of (other x) w).packets packet ≡ Some bytes
  pub takes_bytes : TakesBytes x (Given x (clock (side_of x w).socket) packet) bytes (side_of x w) (side_of x v) w.log v.log
  pub other_side : side_of (other x) v ≡ side_of (other x) w

-- the end would refuse the bytes, or not, by its own checksum
abbrev pub IsJudged : (bytes : List ℕ) → Endpoint (List ℕ) → (is_refused : Bool) → Type 0
IsJudged bytes s is_refused = Judges s.endpoint_state.context.pack.word_of bytes s.endpoint_state.context.options s.endpoint_state.state is_refused

-- bytes from elsewhere: they are given to an end that refuses them, and else withheld from it
pub data MeetsForeignAt (x : End) (bytes : List ℕ) (old new : Side) (log longer : List Entry) : Type 0 where
  given : (t : TakesBytes x (Foreign x (clock old.socket) (Some bytes)) bytes old new log longer) → IsJudged bytes old.socket true → MeetsForeignAt x bytes old new log longer
  withheld : IsJudged bytes old.socket false → new ≡ old → longer ≡ log ++ Foreign x (clock old.socket) None ∷ [] → MeetsForeignAt x bytes old new log longer

pub record MeetsForeign (x : End) (bytes : List ℕ) (w v : World) : Type 0 where
  pub comes : MeetsForeignAt x bytes (side_of x w) (side_of x v) w.log v.log
  pub other_side : side_of (other x) v ≡ side_of (other x) w

abbrev pub Happens : Action → World → World → Type 0
Happens (CallOf x call) w v = v ≡ call_socket x call w
Happens (Give packet x) w v = Gives x packet w v
Happens (GiveForeign x bytes) w v = MeetsForeign x bytes w v
Happens (AdvanceTime x now) w v = v ≡ advance_time x now w

abbrev pub Runs : List Action → World → World → Type 0
Runs [] w v = v ≡ w
Runs (action ∷ actions) w v = (u : World) × Happens action w u × Runs actions u v

-- the event names a packet that isn't there
abbrev pub IsDisabled : Action → World → Type 0
IsDisabled (CallOf x call) w = ⊥
IsDisabled (Give packet x) w = slice_get (side_of (other x) w).packets packet ≡ None
IsDisabled (GiveForeign x bytes) w = ⊥
IsDisabled (AdvanceTime x now) w = ⊥

-- a run up to an event that names a packet which isn't there
pub record RunsUpToDisabled (actions : List Action) (w v : World) : Type 0 where
  pub before : List Action
  pub action : Action
  pub rest : List Action
  pub split : actions ≡ before ++ action ∷ rest
  pub runs : Runs before w v
  pub disabled : IsDisabled action v

-- a run up to an event that the world can meet: the packet is there, if it names one
pub record RunsUpToEnabled (actions : List Action) (w : World) : Type 0 where
  pub before : List Action
  pub action : Action
  pub rest : List Action
  pub split : actions ≡ before ++ action ∷ rest
  pub reached : World
  pub runs : Runs before w reached
  pub there : IsDisabled action reached → ⊥

-- ---- no packet is larger than its sender's mtu

abbrev pub IsShort : (mtu : ℕ) → List ℕ → Type 0
IsShort mtu bytes = length bytes ≤ mtu

-- an end of which each event emitted is taken
pub record IsShortSide (mtu : ℕ) (side : Side) : Type 0 where
  pub word_of : List ℕ → ℕ
  pub own : side.socket.endpoint_state.context.pack ≡ writing word_of
  pub limit : side.socket.endpoint_state.context.options.mtu ≡ mtu
  pub enough : 12 ≤ mtu  -- for a header
  pub taken : side.socket.endpoint_state.context.emitted.events ≡ []
  pub packets : All (IsShort mtu) side.packets

pub record AreShort (mtu_a mtu_b : ℕ) (w : World) : Type 0 where
  pub a : IsShortSide mtu_a w.a
  pub b : IsShortSide mtu_b w.b
