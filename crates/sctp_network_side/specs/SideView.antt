-- What the program's values of an end, and of what happens, say.
use Rattle.std.specs.Prelude.{ℕ, Option, Some, None, List, [], ◌∷◌, map}
use Rattle.std.specs.Option.{option_map}
use Rattle.rand_core.specs.Stream.{Stream}
use Rattle.sctp_serial.specs.Messages.{Message, message_of}
use Rattle.sctp_state.specs.Events.{event_of, given_up_of, numbers_of}
use Rattle.sctp_state.specs.Handover.{handover_state_of}
use Rattle.sctp_state.specs.Options.{send_options_of}
use Rattle.sctp_association.specs.Socket.{SocketValue, association_of, endpoint}
use Rattle.sctp_network_side.specs.declared.log.End as given_end
use Rattle.sctp_network_side.specs.declared.log.End.TheVariants as ends
use Rattle.sctp_network_side.specs.declared.log.Call as given_call
use Rattle.sctp_network_side.specs.declared.log.Call.TheVariants as calls
use Rattle.sctp_network_side.specs.declared.log.Answer as given_answer
use Rattle.sctp_network_side.specs.declared.log.Answer.TheVariants as answers
use Rattle.sctp_network_side.specs.declared.log.Event as given_event
use Rattle.sctp_network_side.specs.declared.log.Event.TheVariants as events
use Rattle.sctp_network_side.specs.declared.log.Entry as given_entry
use Rattle.sctp_network_side.specs.declared.log.Entry.TheVariants as entries
use Rattle.spec_world.specs.Observations.{End, A, B, Call, Connect, Shutdown, Close, Send, SendMany, TakeMessage, Reset, SetPriority, SetMaxMessageSize, SetLowThreshold, HandOver, Answer, Done, Sent, SentMany, TookMessage, AskedReset, HandedOver, NotReady, Entry, Called, Given, Foreign, Timed, Associated, EmittedPacket, EmittedEvent, GaveUp, BecameReady}
use Rattle.spec_world.specs.World.{Action, CallOf, Give, GiveForeign, AdvanceTime, Side}

abbrev pub end_tree : given_end.End → End
end_tree ends.A = A
end_tree ends.B = B

abbrev pub call_tree : given_call.Call → Call
call_tree calls.Connect = Connect
call_tree calls.Shutdown = Shutdown
call_tree calls.Close = Close
call_tree (calls.Send message options) = Send (message_of message) (send_options_of options)
call_tree (calls.SendMany messages options) = SendMany (map message_of messages.items) (send_options_of options)
call_tree calls.Receive = TakeMessage
call_tree (calls.Reset streams) = Reset (numbers_of streams.items)
call_tree (calls.SetPriority stream priority) = SetPriority stream.0 priority
call_tree (calls.SetMaxMessageSize bytes) = SetMaxMessageSize bytes
call_tree (calls.SetLowThreshold stream bytes) = SetLowThreshold stream.0 bytes
call_tree calls.Handover = HandOver

abbrev pub answer_tree : given_answer.Answer → Answer
answer_tree answers.Done = Done
answer_tree (answers.Sent refused) = Sent refused
answer_tree (answers.SentMany refused) = SentMany refused.items
answer_tree (answers.Received message) = TookMessage (option_map message_of message)
answer_tree (answers.AskedReset refused) = AskedReset refused
answer_tree (answers.HandedOver state) = HandedOver (handover_state_of state)
answer_tree (answers.NotReady readiness) = NotReady readiness.0

abbrev pub action_of : given_event.Event → Action
action_of (events.Call end call) = CallOf (end_tree end) (call_tree call)
action_of (events.Give packet end) = Give packet (end_tree end)
action_of (events.Foreign end bytes) = GiveForeign (end_tree end) bytes.items
action_of (events.Time end now) = AdvanceTime (end_tree end) now

abbrev pub entry_tree : given_entry.Entry → Entry
entry_tree (entries.Call end clock call answer) = Called (end_tree end) clock (call_tree call) (answer_tree answer)
entry_tree (entries.Give end clock packet) = Given (end_tree end) clock packet
entry_tree (entries.Foreign end clock bytes) = Foreign (end_tree end) clock (option_map (λ b. b.items) bytes)
entry_tree (entries.Time end clock now) = Timed (end_tree end) clock now
entry_tree (entries.Association end association) = Associated (end_tree end) (option_map association_of association)
entry_tree (entries.Packet end packet) = EmittedPacket (end_tree end) packet
entry_tree (entries.Event end event) = EmittedEvent (end_tree end) (event_of event)
entry_tree (entries.GivenUp end record_) = GaveUp (end_tree end) (given_up_of record_)
entry_tree (entries.Ready end message) = BecameReady (end_tree end) (message_of message)

abbrev pub ready_entry : End → Option Message → List Entry
ready_entry x None = []
ready_entry x (Some m) = BecameReady x m ∷ []

-- a socket all of whose events, or records of messages given up, are taken
abbrev pub without_events : {R C : Type 0} → SocketValue R C → SocketValue R C
without_events s = record s { context = record s.context { emitted = record s.context.emitted { events = [] } } }

abbrev pub without_records : {R C : Type 0} → SocketValue R C → SocketValue R C
without_records s = record s { context = record s.context { emitted = record s.context.emitted { given_up = [] } } }

-- a side as the program has it
pub record SideValue (R C : Type 0) : Type 0 where
  pub socket : SocketValue R C
  pub packets : List (List ℕ)

abbrev pub side_in : {R C : Type 0} → (R → Stream) → (C → List ℕ → ℕ) → SideValue R C → Side
side_in stream word_of side = record { socket = endpoint stream word_of side.socket; packets = side.packets }
