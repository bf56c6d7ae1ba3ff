-- Channels over a socket: what becomes of them, and what their owner is told, by the socket's messages, events and answers, one after the other.
use Rattle.std.specs.Prelude.{◌≡◌, ℕ, Option, Some, None, List, [], ◌∷◌, ◌++◌}
use Rattle.std.specs.List.{flat_map}
use Rattle.std.specs.Map.{keys_of}
use Rattle.sctp_serial.specs.Messages.{Message}
use Rattle.sctp_state.specs.Events as sockets
use Rattle.sctp_channels.specs.Channels as table
use Rattle.sctp_channels.specs.Channels.{Channels, OnMessage, Output, acknowledge, prioritize, reset, tell_closed, tell_message, tell_opened, tell_refused}
use Rattle.sctp_channels.specs.Payload.{protocol_of}
use Rattle.sctp_channels.specs.Unanswered.{wait}
use Rattle.sctp_channels.specs.declared.event.ChannelEvent as given
use Rattle.sctp_channels.specs.declared.event.ChannelEvent.TheVariants as events

-- what the owner is told
pub data Event : Type 0 where
  -- an output of the channels
  of_channels : (o : Output) → Event
  -- what waits on a channel fell to its threshold
  is_low : (id : ℕ) → Event
  of_socket : (e : sockets.Event (List ℕ)) → Event

abbrev pub event_of : given.ChannelEvent → Event
event_of (events.Opened id) = of_channels (tell_opened id.0)
event_of (events.Message id kind bytes) = of_channels (tell_message id.0 kind bytes.items)
event_of (events.BufferedAmountLow id) = is_low id.0
event_of (events.Closed id) = of_channels (tell_closed id.0)
event_of (events.Refused id why) = of_channels (tell_refused id.0 why)
event_of (events.Socket event) = of_socket (sockets.event_of event)

pub record DataChannels : Type 0 where
  pub channels : Channels
  -- the longest message that the peer takes; 0 is any
  pub peer_limit : ℕ
  -- the most bytes that may wait on a channel
  pub buffer_limit : ℕ
  -- what the owner is to be told, in order
  pub events : List Event
  -- streams whose DATA_CHANNEL_OPEN is to be answered, in order, each once
  pub unanswered : List ℕ

abbrev pub with_channels : Channels → DataChannels → DataChannels
with_channels cs d = record d { channels = cs }

-- the owner is told the output
abbrev pub told_by : Output → List Event
told_by (acknowledge id) = []
told_by (reset id) = []
told_by (prioritize id priority) = []
told_by o = of_channels o ∷ []

-- an answer is to be sent
abbrev pub acknowledged_by : Output → List ℕ → List ℕ
acknowledged_by (acknowledge id) ids = wait id ids
acknowledged_by o ids = ids

abbrev pub acknowledged_by_all : List Output → List ℕ → List ℕ
acknowledged_by_all [] ids = ids
acknowledged_by_all (o ∷ os) ids = acknowledged_by_all os (acknowledged_by o ids)

-- each output goes where it belongs
abbrev pub with_outputs : DataChannels → DataChannels
with_outputs d = record {
  channels = record d.channels { outputs = [] };
  peer_limit = d.peer_limit;
  buffer_limit = d.buffer_limit;
  events = d.events ++ flat_map told_by d.channels.outputs;
  unanswered = acknowledged_by_all d.channels.outputs d.unanswered;
}

-- a row of the table for each stream
abbrev pub each : (ℕ → Channels → Channels) → List ℕ → Channels → Channels
each row [] cs = cs
each row (id ∷ ids) cs = each row ids (row id cs)

-- where no stream is named all are meant that weren't reset yet
abbrev pub named : List ℕ → Channels → List ℕ
named [] cs = table.incoming_streams cs.entries
named ids cs = ids

abbrev pub ended : DataChannels → DataChannels
ended d = record d { channels = table.end d.channels; unanswered = [] }

-- the socket emitted an event
abbrev pub heard : sockets.Event (List ℕ) → DataChannels → DataChannels
heard (sockets.OnIncomingStreamReset ids) d = with_channels (each table.on_incoming_reset (named ids d.channels) d.channels) d
heard (sockets.OnStreamsResetPerformed ids) d = with_channels (each table.on_reset_performed ids d.channels) d
heard (sockets.OnStreamsResetFailed ids) d = with_channels (each table.on_reset_denied ids d.channels) d
heard sockets.OnConnected d = with_channels (each table.end_missing (keys_of d.channels.entries) d.channels) d
heard sockets.OnClosed d = ended d
heard sockets.OnConnectionRestarted d = ended d
heard (sockets.OnAborted kind text) d = ended d
heard _ d = d

-- what is left of it for the owner
abbrev pub passed_on : sockets.Event (List ℕ) → Option Event
passed_on (sockets.OnIncomingStreamReset ids) = None
passed_on (sockets.OnStreamsResetPerformed ids) = None
passed_on (sockets.OnStreamsResetFailed ids) = None
passed_on (sockets.OnBufferedAmountLow id) = Some (is_low id)
passed_on e = Some (of_socket e)

-- ---- in any order

-- one thing that the socket hands out, emits or answers, or that its owner asks for; and what is done of what is to be done
pub data Step : Type 0 where
  -- the socket handed out a message
  gets : (m : Message) → Step
  -- it emitted an event, or a part of one that says which streams were reset; and the owner is told what is left of one
  hears : (e : sockets.Event (List ℕ)) → Step
  passes_on : (e : sockets.Event (List ℕ)) → Step
  -- it has so many streams
  counts : (stream_count : ℕ) → Step
  -- so many bytes of a stream wait in it for a peer that takes them
  buffers : (id buffered : ℕ) → Step
  -- it doesn't ask for these resets
  refuses : (ids : List ℕ) → Step
  -- the owner closes a channel
  closes : (id : ℕ) → Step
  -- what is to be done is done, or told
  carries_out : Step
  -- the socket has accepted the first answers, where neither end has reset the stream since
  answers : Step

-- a message is read by the table's row
pub record Gets (m : Message) (d e : DataChannels) : Type 0 where
  pub channels : Channels
  pub row : OnMessage (protocol_of m.ppid) m.stream m.payload d.channels channels
  pub done : e ≡ with_channels channels d

-- some that waited in front wait no more
pub record Answers (d e : DataChannels) : Type 0 where
  pub answered : List ℕ
  pub rest : List ℕ
  pub waiting : d.unanswered ≡ answered ++ rest
  pub done : e ≡ record d { unanswered = rest }

pub record PassesOn (event : sockets.Event (List ℕ)) (d e : DataChannels) : Type 0 where
  pub told : Event
  pub left : passed_on event ≡ Some told
  pub done : e ≡ record d { events = d.events ++ told ∷ [] }

abbrev pub Does : Step → DataChannels → DataChannels → Type 0
Does (gets m) d e = Gets m d e
Does (hears event) d e = e ≡ heard event d
Does (passes_on event) d e = PassesOn event d e
Does (counts stream_count) d e = e ≡ with_channels (record d.channels { stream_count = stream_count }) d
Does (buffers id buffered) d e = e ≡ with_channels (table.drain id buffered d.channels) d
Does (refuses ids) d e = e ≡ with_channels (each table.on_reset_denied ids d.channels) d
Does (closes id) d e = e ≡ with_channels (table.close id d.channels) d
Does carries_out d e = e ≡ with_outputs d
Does answers d e = Answers d e

abbrev pub Runs : List Step → DataChannels → DataChannels → Type 0
Runs [] d e = d ≡ e
Runs (s ∷ ss) d e = (c : DataChannels) × Does s d c × Runs ss c e

abbrev pub closed_by : Step → List ℕ
closed_by (closes id) = id ∷ []
closed_by s = []

-- the one has become the other by such steps, and by nothing else; none of them is a word of the owner
pub record Follows (d e : DataChannels) : Type 0 where
  pub steps : List Step
  pub runs : Runs steps d e
  pub closes_none : flat_map closed_by steps ≡ []

-- what was to be told is still to be told, in front
pub record StaysTold (d e : DataChannels) : Type 0 where
  pub more : List Event
  pub events : e.events ≡ d.events ++ more
