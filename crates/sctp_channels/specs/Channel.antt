-- A channel, and what becomes of data that comes for it.
use Rattle.std.specs.Prelude.{ℕ, ◌+◌, ◌-◌, ◌^◌, min, nat_le, nat_lt, Bool, true, false, not, ◌&&◌, ◌||◌, List, [], ◌++◌, length, ◌==◌}
use Rattle.sctp_channels.specs.declared.payload.PayloadKind.{PayloadKind}
use Rattle.sctp_channels.specs.declared.payload.PayloadProtocol.{PayloadProtocol}
use Rattle.sctp_channels.specs.declared.payload.PayloadProtocol.TheVariants.{Control, Data, Empty, Part}
use Rattle.sctp_channels.specs.Message.{Open}
use Rattle.sctp_channels.specs.Lifecycle.{is_connecting, stop_incoming, takes_data}
use Rattle.sctp_channels.specs.declared.channel.Received as given
use Rattle.sctp_channels.specs.declared.channel.Received.TheVariants as outcomes
use Rattle.sctp_channels.specs.declared.channel.Statistics.{Statistics}
use Rattle.sctp_channels.specs.declared.lifecycle.Lifecycle.{Lifecycle}

pub record Channel : Type 0 where
  pub lifecycle : Lifecycle
  pub description : Open
  -- parts of a message whose last one did not come yet, joined
  pub parts : List ℕ
  -- the parts that came are too long, and the rest of the message is dropped
  pub is_too_long : Bool
  pub statistics : Statistics

-- what becomes of data
pub data Received : Type 0 where
  nothing : Received
  message : (kind : PayloadKind) (bytes : List ℕ) → Received
  too_long : Received

abbrev pub received_as : given.Received → Received
received_as outcomes.Nothing = nothing
received_as (outcomes.Message kind bytes) = message kind bytes.items
received_as outcomes.TooLong = too_long

-- a count stops at the greatest number of 64 bits
abbrev pub plus : ℕ → ℕ → ℕ
plus count more = min (count + more) (2 ^ 64 - 1)

abbrev pub new_channel : Lifecycle → Open → Channel
new_channel l description = record { lifecycle = l; description = description; parts = []; is_too_long = false; statistics = record { messages_sent = 0; bytes_sent = 0; messages_received = 0; bytes_received = 0 } }

-- the bytes of a label and a protocol
abbrev pub text_bytes : Open → ℕ
text_bytes description = length description.label + length description.protocol

-- the bytes that a channel keeps
abbrev pub kept_by : Channel → ℕ
kept_by c = text_bytes c.description + length c.parts

abbrev pub with_lifecycle : Lifecycle → Channel → Channel
with_lifecycle l c = record c { lifecycle = l }

-- what f makes of its lifecycle
abbrev pub change_lifecycle : (Lifecycle → Lifecycle) → Channel → Channel
change_lifecycle f c = with_lifecycle (f c.lifecycle) c

-- the next message may overtake others: never before both ends have the channel
abbrev pub goes_unordered : Channel → Bool
goes_unordered c = c.description.unordered && not (is_connecting c.lifecycle)

-- the socket has accepted a message of so many bytes
abbrev pub count_sent : ℕ → Channel → Channel
count_sent size c = record c { statistics = record c.statistics { messages_sent = plus c.statistics.messages_sent 1; bytes_sent = plus c.statistics.bytes_sent size } }

abbrev pub count_received : ℕ → Channel → Channel
count_received size c =
    record c { statistics = record c.statistics { messages_received = plus c.statistics.messages_received 1; bytes_received = plus c.statistics.bytes_received size } }

-- with so many bytes more the message is longer than it may be
abbrev pub exceeds : (limit size : ℕ) → Channel → Bool
exceeds limit size c = c.is_too_long || nat_lt limit (length c.parts + size)

-- a message of so many bytes is handed out as it came: both ends have the channel, no part waits in front of it, and it isn't too long
abbrev pub takes_whole : (limit size : ℕ) → Channel → Bool
takes_whole limit size c = not (is_connecting c.lifecycle) && (takes_data c.lifecycle && (not c.is_too_long && ((length c.parts == 0) && nat_le size limit)))

abbrev pub with_parts : List ℕ → Bool → Channel → Channel
with_parts parts is_too_long c = record c { parts = parts; is_too_long = is_too_long }

-- a part that isn't the last one
abbrev pub keep_if : (is_too_long : Bool) → List ℕ → Channel → Channel
keep_if true payload c = with_parts [] true c
keep_if false payload c = with_parts (c.parts ++ payload) c.is_too_long c

abbrev pub keep : ℕ → List ℕ → Channel → Channel
keep limit payload c = keep_if (exceeds limit (length payload) c) payload c

-- the last part, or all of a message
abbrev pub take_if : (is_too_long : Bool) → List ℕ → Channel → Channel
take_if true payload c = with_parts [] false c
take_if false payload c = count_received (length (c.parts ++ payload)) (with_parts [] c.is_too_long c)

abbrev pub take : ℕ → List ℕ → Channel → Channel
take limit payload c = take_if (exceeds limit (length payload) c) payload c

abbrev pub taken_if : (is_too_long : Bool) → PayloadKind → List ℕ → Channel → Received
taken_if true kind payload c = too_long
taken_if false kind payload c = message kind (c.parts ++ payload)

abbrev pub taken : ℕ → PayloadKind → List ℕ → Channel → Received
taken limit kind payload c = taken_if (exceeds limit (length payload) c) kind payload c

-- the channel after a payload, and what is handed out of it
abbrev pub on_data : ℕ → PayloadProtocol → List ℕ → Channel → Channel
on_data limit Control payload c = c
on_data limit (Part kind) payload c = keep limit payload c
on_data limit (Data kind) payload c = take limit payload c
on_data limit (Empty kind) payload c = take limit [] c

abbrev pub received : ℕ → PayloadProtocol → List ℕ → Channel → Received
received limit (Data kind) payload c = taken limit kind payload c
received limit (Empty kind) payload c = taken limit kind [] c
received limit _ payload c = nothing

-- the peer has reset its outgoing stream: no further part comes
abbrev pub reset_incoming : Channel → Channel
reset_incoming c = with_parts [] false (change_lifecycle stop_incoming c)
