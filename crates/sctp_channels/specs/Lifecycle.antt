-- A channel between its opening and the moment when its stream is free: what it may do, and what each thing that happens makes of it (RFC 8831
-- sections 6.6 and 6.7, RFC 8832 section 6).
use Rattle.std.specs.Prelude.{ℕ, Bool, true, false, not, ◌&&◌, ◌==◌}
use Rattle.sctp_channels.specs.declared.lifecycle.ChannelState.{ChannelState}
use Rattle.sctp_channels.specs.declared.lifecycle.ChannelState.TheVariants as states
use Rattle.sctp_channels.specs.declared.lifecycle.Lifecycle.{Lifecycle}
use Rattle.sctp_channels.specs.declared.lifecycle.Opening.{Opening}
use Rattle.sctp_channels.specs.declared.lifecycle.Opening.TheVariants.{Connecting, Established, Refused}
use Rattle.sctp_channels.specs.declared.lifecycle.Outgoing.{Outgoing}
use Rattle.sctp_channels.specs.declared.lifecycle.Outgoing.TheVariants.{Sending, Draining, Resetting, Stopped, Denied}

-- ---- how it begins

-- agreed on beforehand, or opened by the peer and answered
abbrev pub negotiated : Lifecycle
negotiated = record { opening = Established; outgoing = Sending; is_incoming_reset = false; awaits_answer = false }

-- this end has sent OPEN
abbrev pub opened : Lifecycle
opened = record negotiated { opening = Connecting }

-- this end doesn't take what was opened, or has no channel where the peer has reset its stream
abbrev pub refused : Lifecycle
refused = record negotiated { opening = Refused; outgoing = Draining }

-- opened by the peer and answered, while the reset of the channel before is unanswered
abbrev pub reopened : Lifecycle
reopened = record negotiated { awaits_answer = true }

-- ---- what it may do

abbrev pub waits_for_answer : Opening → Bool
waits_for_answer Connecting = true
waits_for_answer _ = false

abbrev pub is_connecting : Lifecycle → Bool
is_connecting l = waits_for_answer l.opening

abbrev pub is_sending : Outgoing → Bool
is_sending Sending = true
is_sending _ = false

abbrev pub may_send : Lifecycle → Bool
may_send l = is_sending l.outgoing

abbrev pub is_taken : Opening → Bool
is_taken Refused = false
is_taken _ = true

abbrev pub takes_data : Lifecycle → Bool
takes_data l = is_taken l.opening && not l.is_incoming_reset

-- its reset wasn't asked for
abbrev pub is_going : Outgoing → Bool
is_going Sending = true
is_going Draining = true
is_going _ = false

-- an answer on its stream is of use: neither end has reset the stream, or asked for it
abbrev pub needs_answer : Lifecycle → Bool
needs_answer l = is_going l.outgoing && not l.is_incoming_reset

abbrev pub is_stopped : Outgoing → Bool
is_stopped Stopped = true
is_stopped _ = false

-- both streams were reset
abbrev pub is_over : Lifecycle → Bool
is_over l = is_stopped l.outgoing && l.is_incoming_reset

abbrev pub is_resetting : Outgoing → Bool
is_resetting Resetting = true
is_resetting _ = false

-- a peer that has performed the reset may be ahead of its answer
abbrev pub may_reopen : Lifecycle → Bool
may_reopen l = is_resetting l.outgoing && (l.is_incoming_reset && not l.awaits_answer)

-- what it is to its owner, where it is the first as long as messages are accepted
abbrev pub state_by : ChannelState → Outgoing → ChannelState
state_by sending Sending = sending
state_by sending Denied = states.Closed
state_by sending _ = states.Closing

abbrev pub state_of : Opening → Outgoing → ChannelState
state_of Connecting outgoing = state_by states.Connecting outgoing
state_of Established outgoing = state_by states.Open outgoing
state_of Refused outgoing = states.Closed

abbrev pub state : Lifecycle → ChannelState
state l = state_of l.opening l.outgoing

-- ---- what happens to it

abbrev pub confirmed : Opening → Opening
confirmed Connecting = Established
confirmed opening = opening

-- an answer or a message came
abbrev pub confirm : Lifecycle → Lifecycle
confirm l = record l { opening = confirmed l.opening }

abbrev pub closed : Outgoing → Outgoing
closed Sending = Draining
closed outgoing = outgoing

-- the owner closes it
abbrev pub close : Lifecycle → Lifecycle
close l = record l { outgoing = closed l.outgoing }

-- the peer has reset its outgoing stream
abbrev pub stop_incoming : Lifecycle → Lifecycle
stop_incoming l = record l { outgoing = closed l.outgoing; is_incoming_reset = true }

abbrev pub is_draining : Outgoing → Bool
is_draining Draining = true
is_draining _ = false

-- the reset is asked for once nothing waits that the peer would take, and the stream's former reset is answered: a stream is named in no second
-- request before (RFC 6525 section 5.1.2)
abbrev pub asks_for_reset : ℕ → Lifecycle → Bool
asks_for_reset buffered l = is_draining l.outgoing && (not l.awaits_answer && (buffered == 0))

abbrev pub drained : Bool → Outgoing → Outgoing
drained true outgoing = Resetting
drained false outgoing = outgoing

-- so many bytes wait in the socket for a peer that takes them
abbrev pub drain : ℕ → Lifecycle → Lifecycle
drain buffered l = record l { outgoing = drained (asks_for_reset buffered l) l.outgoing }

abbrev pub settled : Outgoing → Outgoing → Outgoing
settled outcome Resetting = outcome
settled outcome outgoing = outgoing

-- the first answer is that to the channel before, where it waits for one
abbrev pub answered : Bool → Outgoing → Lifecycle → Lifecycle
answered true outcome l = record l { awaits_answer = false }
answered false outcome l = record l { outgoing = settled outcome l.outgoing }

abbrev pub answer : Outgoing → Lifecycle → Lifecycle
answer outcome l = answered l.awaits_answer outcome l

-- the reset was performed
abbrev pub finish : Lifecycle → Lifecycle
finish l = answer Stopped l

-- the reset was refused
abbrev pub deny : Lifecycle → Lifecycle
deny l = answer Denied l
