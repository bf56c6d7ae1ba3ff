-- The channels of an association: what each call of the owner, and each thing that the socket hands out, makes of them (RFC 8831 sections 6.5 to 6.7,
-- RFC 8832 sections 4 and 6).
use Rattle.std.specs.Prelude.{◌≡◌, ◌≢◌, ◌⊎◌, ℕ, ◌+◌, ◌-◌, ◌%◌, ◌==◌, ◌&&◌, nat_le, nat_lt, min, cond, Bool, true, false, not, Option, Some, None, List, [], ◌∷◌, ◌++◌, length, map}
use Rattle.std.specs.Map.{keys_of}
use Rattle.sctp_channels.specs.declared.fault.ChannelMessageFault.{ChannelMessageFault}
use Rattle.sctp_channels.specs.declared.fault.ChannelMessageFault.TheVariants.{Memory}
use Rattle.sctp_channels.specs.declared.payload.PayloadKind.{PayloadKind}
use Rattle.sctp_channels.specs.declared.payload.PayloadProtocol.{PayloadProtocol}
use Rattle.sctp_channels.specs.declared.payload.PayloadProtocol.TheVariants.{Control, Part}
use Rattle.sctp_channels.specs.declared.reliability.Reliability.TheVariants.{Reliable}
use Rattle.sctp_channels.specs.Message.{Establishment, Open, RefusedAs, Says, opens, acknowledges}
use Rattle.sctp_channels.specs.Channel.{Channel, Received, change_lifecycle, count_sent, kept_by, message, new_channel, nothing, on_data, received, reset_incoming, text_bytes, too_long}
use Rattle.sctp_channels.specs.Lifecycle as life
use Rattle.sctp_channels.specs.declared.lifecycle.Lifecycle.{Lifecycle}
use Rattle.sctp_channels.specs.declared.lifecycle.Outgoing.{Outgoing}
use Rattle.sctp_channels.specs.declared.lifecycle.Outgoing.TheVariants.{Denied}
use Rattle.sctp_channels.specs.declared.output.Output as given
use Rattle.sctp_channels.specs.declared.output.Output.TheVariants as outputs
use Rattle.sctp_channels.specs.declared.output.Refusal.{Refusal}
use Rattle.sctp_channels.specs.declared.output.Refusal.TheVariants.{BadMessage, WrongParity, NoSuchStream, StreamInUse, NoRoom, NoChannel, UnknownPayloadProtocol, TooLong}
use Rattle.sctp_channels.specs.Entries.{Entries, channel_at, changed, forget, kept_bytes, put}

-- what is to be done, or is told to the owner
pub data Output : Type 0 where
  -- the socket sends DATA_CHANNEL_ACK
  acknowledge : (id : ℕ) → Output
  -- the socket resets the stream
  reset : (id : ℕ) → Output
  -- the socket weighs the stream by this priority
  prioritize : (id priority : ℕ) → Output
  tell_opened : (id : ℕ) → Output
  tell_message : (id : ℕ) (kind : PayloadKind) (bytes : List ℕ) → Output
  tell_closed : (id : ℕ) → Output
  tell_refused : (id : ℕ) (why : Refusal) → Output

abbrev pub output_of : given.Output → Output
output_of (outputs.Acknowledge id) = acknowledge id.0
output_of (outputs.Reset id) = reset id.0
output_of (outputs.Prioritize id priority) = prioritize id.0 priority
output_of (outputs.Opened id) = tell_opened id.0
output_of (outputs.Message id kind bytes) = tell_message id.0 kind bytes.items
output_of (outputs.Closed id) = tell_closed id.0
output_of (outputs.Refused id why) = tell_refused id.0 why

pub record Channels : Type 0 where
  -- this end is the client of DTLS
  pub is_client : Bool
  -- streams have numbers below it
  pub stream_count : ℕ
  -- the longest message that this end takes
  pub limit : ℕ
  -- the most bytes that channels keep together, as far as the peer adds to them
  pub kept_limit : ℕ
  pub entries : Entries
  -- what is not done or taken yet, in order
  pub outputs : List Output

abbrev pub no_channels : Bool → (stream_count limit kept_limit : ℕ) → Channels
no_channels is_client stream_count limit kept_limit =
    record { is_client = is_client; stream_count = stream_count; limit = limit; kept_limit = kept_limit; entries = []; outputs = [] }

abbrev pub emit : Output → Channels → Channels
emit o cs = record cs { outputs = cs.outputs ++ o ∷ [] }

abbrev pub with_entries : Entries → Channels → Channels
with_entries es cs = record cs { entries = es }

abbrev pub change : (Channel → Channel) → ℕ → Channels → Channels
change f id cs = with_entries (changed f id cs.entries) cs

-- what is made of them where the stream has a channel
abbrev pub where_there : Option Channel → (Channel → Channels) → Channels → Channels
where_there None row cs = cs
where_there (Some c) row cs = row c

-- the client opens even streams, the server odd ones
abbrev pub is_own : Bool → ℕ → Bool
is_own true id = id % 2 == 0
is_own false id = id % 2 == 1

-- the association has the stream
abbrev pub has_stream : ℕ → Channels → Bool
has_stream id cs = nat_lt id cs.stream_count

-- the stream is to have this priority; 0 leaves the one that it has
abbrev pub weigh : (id priority : ℕ) → Channels → Channels
weigh id priority cs = cond (priority == 0) cs (emit (prioritize id priority) cs)

-- a channel gets its stream, and the stream the channel's priority
abbrev pub place : ℕ → Lifecycle → Open → Channels → Channels
place id l description cs = weigh id description.priority (with_entries (put id (new_channel l description) cs.entries) cs)

-- ---- calls of the owner

-- a channel that this end opens on a stream that is free
abbrev pub open_own : ℕ → Open → Channels → Channels
open_own id description cs = place id life.opened description cs

-- a channel that both ends agreed on
abbrev pub negotiate : ℕ → Open → Channels → Channels
negotiate id description cs = place id life.negotiated description cs

abbrev pub close : ℕ → Channels → Channels
close id cs = change (change_lifecycle life.close) id cs

-- the socket has accepted a message of so many bytes
abbrev pub sent : ℕ → ℕ → Channels → Channels
sent id size cs = change (count_sent size) id cs

-- what was to be done is still to be done, and maybe more
abbrev pub Emits : Channels → Channels → Type 0
Emits old new = (more : List Output) × (new ≡ record old { outputs = old.outputs ++ more })

-- ---- what the owner is told of a channel

abbrev pub is_denied : Outgoing → Bool
is_denied Denied = true
is_denied _ = false

-- the owner knows the channel, and was not told that it is closed
abbrev pub is_shown : Lifecycle → Bool
is_shown l = life.is_taken l.opening && not (is_denied l.outgoing)

abbrev pub tell_end : Lifecycle → ℕ → Channels → Channels
tell_end l id cs = cond (is_shown l) (emit (tell_closed id) cs) cs

-- one that was closed meanwhile isn't told to be open
abbrev pub tell_begin : Lifecycle → ℕ → Channels → Channels
tell_begin l id cs = cond (life.may_send l) (emit (tell_opened id) cs) cs

-- ---- what opens a channel, or says that it is open

abbrev pub no_description : Open
no_description = record { unordered = false; reliability = Reliable; priority = 0; label = []; protocol = [] }

-- the stream is to be reset
abbrev pub refuse : ℕ → Channels → Channels
refuse id cs = with_entries (put id (new_channel life.refused no_description) cs.entries) cs

-- what was opened isn't taken: its stream is reset, where the association has it; where there is a channel on it, that channel is closed
abbrev pub turn_down_from : Option Channel → ℕ → Refusal → Channels → Channels
turn_down_from None id why cs = emit (tell_refused id why) (cond (has_stream id cs) (refuse id cs) cs)
turn_down_from (Some c) id why cs = emit (tell_refused id why) (close id cs)

abbrev pub turn_down : ℕ → Refusal → Channels → Channels
turn_down id why cs = turn_down_from (channel_at id cs.entries) id why cs

abbrev pub take_open : ℕ → Open → Lifecycle → Channels → Channels
take_open id description l cs = place id l description (emit (tell_opened id) (emit (acknowledge id) cs))

-- so many bytes more may be kept
abbrev pub room : Channels → ℕ
room cs = cs.kept_limit - kept_bytes cs.entries

-- there is room for a label and a protocol, in place of so many bytes
abbrev pub has_room : (before : ℕ) → Open → Channels → Bool
has_room before description cs = nat_le (text_bytes description) (room cs + before)

-- the channel before, which keeps so many bytes, is closed by the peer's word: the owner is told where it knows that channel
abbrev pub reopen_if : (may_reopen : Bool) → Lifecycle → (before : ℕ) → ℕ → Open → Channels → Channels
reopen_if true l before id description cs =
    cond (has_room before description cs) (take_open id description life.reopened (tell_end l id cs)) (turn_down id NoRoom cs)
reopen_if false l before id description cs = turn_down id StreamInUse cs

abbrev pub open_from : Option Channel → ℕ → Open → Channels → Channels
open_from None id description cs = cond (has_room 0 description cs) (take_open id description life.negotiated cs) (turn_down id NoRoom cs)
open_from (Some c) id description cs = reopen_if (life.may_reopen c.lifecycle) c.lifecycle (kept_by c) id description cs

-- the peer opens a channel: on a stream of its own parity that there is
abbrev pub on_open : ℕ → Open → Channels → Channels
on_open id description cs =
    cond (has_stream id cs) (cond (is_own cs.is_client id) (turn_down id WrongParity cs) (open_from (channel_at id cs.entries) id description cs))
    (emit (tell_refused id NoSuchStream) cs)

-- an answer, or a message, that says that the peer has the channel
abbrev pub on_ack : ℕ → Channels → Channels
on_ack id cs =
    where_there (channel_at id cs.entries) (λ c. cond (life.is_connecting c.lifecycle) (tell_begin c.lifecycle id (change (change_lifecycle life.confirm) id cs)) cs) cs

-- ---- data

abbrev pub hand : Received → ℕ → Channels → Channels
hand nothing id cs = cs
hand (message kind bytes) id cs = emit (tell_message id kind bytes) cs
hand too_long id cs = emit (tell_refused id TooLong) cs

-- the longest message that what came behind so many bytes may be of: a part is kept, and so has to find room
abbrev pub limit_of : PayloadProtocol → (parts : ℕ) → Channels → ℕ
limit_of (Part kind) parts cs = min cs.limit (parts + room cs)
limit_of protocol parts cs = cs.limit

abbrev pub data_from : Option Channel → ℕ → PayloadProtocol → List ℕ → Channels → Channels
data_from None id protocol payload cs = emit (tell_refused id NoChannel) cs
data_from (Some c) id protocol payload cs =
    cond (life.takes_data c.lifecycle) (hand (received (limit_of protocol (length c.parts) cs) protocol payload c) id (change (on_data (limit_of protocol (length c.parts) cs) protocol payload) id cs))
    (emit (tell_refused id NoChannel) cs)

abbrev pub deliver : ℕ → PayloadProtocol → List ℕ → Channels → Channels
deliver id protocol payload cs = data_from (channel_at id cs.entries) id protocol payload cs

abbrev pub on_payload : ℕ → PayloadProtocol → List ℕ → Channels → Channels
on_payload id protocol payload cs = deliver id protocol payload (on_ack id cs)

-- ---- resets

-- a channel is gone once both its streams were reset, and only then is its stream free
abbrev pub settle : (Channel → Channel) → Channel → ℕ → Channels → Channels
settle f c id cs = cond (life.is_over (f c).lifecycle) (tell_end (f c).lifecycle id (with_entries (forget id cs.entries) cs)) (change f id cs)

-- an end whose incoming stream was reset resets its outgoing one too, where the association has it, also without a channel (RFC 8831 section 6.7)
abbrev pub reset_in_turn : ℕ → Channels → Channels
reset_in_turn id cs = cond (has_stream id cs) (change reset_incoming id (refuse id cs)) cs

-- the peer has reset its outgoing stream: that of a channel for the first time
abbrev pub incoming_reset_from : Option Channel → ℕ → Channels → Channels
incoming_reset_from None id cs = reset_in_turn id cs
incoming_reset_from (Some c) id cs = cond c.lifecycle.is_incoming_reset cs (settle reset_incoming c id cs)

abbrev pub on_incoming_reset : ℕ → Channels → Channels
on_incoming_reset id cs = incoming_reset_from (channel_at id cs.entries) id cs

-- the streams that the peer has not reset yet
abbrev pub incoming_streams : Entries → List ℕ
incoming_streams [] = []
incoming_streams (e ∷ es) = cond e.1.lifecycle.is_incoming_reset (incoming_streams es) (e.0 ∷ incoming_streams es)

-- the peer has performed a reset
abbrev pub on_reset_performed : ℕ → Channels → Channels
on_reset_performed id cs = where_there (channel_at id cs.entries) (λ c. settle (change_lifecycle life.finish) c id cs) cs

abbrev pub denied : Channel → ℕ → Channels → Channels
denied c id cs = cond (is_denied (life.deny c.lifecycle).outgoing) (tell_end c.lifecycle id cs) cs

-- a reset was refused: the channel is closed, and its stream stays in use
abbrev pub on_reset_denied : ℕ → Channels → Channels
on_reset_denied id cs = where_there (channel_at id cs.entries) (λ c. denied c id (change (change_lifecycle life.deny) id cs)) cs

-- so many bytes of the stream wait in the socket for a peer that takes them
abbrev pub drain : ℕ → ℕ → Channels → Channels
drain id buffered cs =
    where_there (channel_at id cs.entries) (λ c. cond (life.asks_for_reset buffered c.lifecycle) (emit (reset id) (change (change_lifecycle (life.drain buffered)) id cs)) cs) cs

-- ---- a message of SCTP

abbrev pub on_establishment : ℕ → Establishment → Channels → Channels
on_establishment id (opens description) cs = on_open id description cs
on_establishment id acknowledges cs = on_ack id cs

-- the payload says a message that opens a channel, or answers, or it is refused
abbrev pub OnControl : ℕ → List ℕ → Channels → Channels → Type 0
OnControl id payload old new =
    ((m : Establishment) × Says payload m × (new ≡ on_establishment id m old))
    ⊎ ((fault : ChannelMessageFault) × (fault ≢ Memory) × RefusedAs payload fault × (new ≡ turn_down id (BadMessage fault) old))

abbrev pub OnMessage : Option PayloadProtocol → ℕ → List ℕ → Channels → Channels → Type 0
OnMessage None id payload old new = new ≡ emit (tell_refused id UnknownPayloadProtocol) old
OnMessage (Some Control) id payload old new = OnControl id payload old new
OnMessage (Some protocol) id payload old new = new ≡ on_payload id protocol payload old

-- what stands where memory ran out: what was to be done, in front, and each channel on its stream
pub record Stands (old new : Channels) : Type 0 where
  pub more : List Output
  pub outputs : new.outputs ≡ old.outputs ++ more
  pub streams : keys_of new.entries ≡ keys_of old.entries

-- ---- the association begins

-- the channel on the stream is closed, where the association doesn't have that stream (RFC 9260 section 5.1.1)
abbrev pub end_missing : ℕ → Channels → Channels
end_missing id cs = cond (has_stream id cs) cs (where_there (channel_at id cs.entries) (λ c. tell_end c.lifecycle id (with_entries (forget id cs.entries) cs)) cs)

-- ---- the end of the association

-- the streams whose channels the owner knows
abbrev pub shown_streams : Entries → List ℕ
shown_streams [] = []
shown_streams (e ∷ es) = cond (is_shown e.1.lifecycle) (e.0 ∷ shown_streams es) (shown_streams es)

-- the association has ended: each channel is closed, and its stream is free
abbrev pub end : Channels → Channels
end cs = record cs { entries = []; outputs = cs.outputs ++ map tell_closed (shown_streams cs.entries) }
