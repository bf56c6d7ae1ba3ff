-- Laws of the table: no call makes an end emit a packet above the mtu, and each time that an end is closed one event says so.
use Rattle.std.specs.Prelude.{◌≡◌, ℕ, ◌+◌, ◌≤◌, Bool, true, false, Option, Some, None, List, [], ◌∷◌, ◌++◌, length, All}
use Rattle.sctp_serial.specs.Messages.{Message}
use Rattle.sctp_packet.specs.Chunk.{ChunkTree}
use Rattle.sctp_packet.specs.Written.{chunks_bytes}
use Rattle.sctp_packet.specs.Packet.{HeaderTree, PacketTree}
use Rattle.sctp_state.specs.Options.{SendOptions}
use Rattle.sctp_state.specs.Handover.{HandoverState}
use Rattle.sctp_state.specs.Events.{Event, SendPacket, OnClosed, OnAborted}
use Rattle.spec_endpoint.specs.Association.{State, Closed, CookieWait, Open, Packing, Context, Endpoint, in_context}
use Rattle.spec_endpoint.specs.Opening.{connect}
use Rattle.spec_endpoint.specs.Shutdown.{close, shutdown}
use Rattle.spec_endpoint.specs.Calls.{send, send_many, set_low_threshold, set_priority, set_max_message_size, take_message}
use Rattle.spec_endpoint.specs.StreamReset.{reset_streams}
use Rattle.spec_endpoint.specs.Timers.{advance}
use Rattle.spec_endpoint.specs.Handover.{hand_over, restore}
use Rattle.spec_endpoint.specs.Wire.{writing}
use Rattle.spec_endpoint.specs.Input.{packet_refusal, AfterChunk, receive, has_data_chunk, repeats_if, count_packet_at, in_endpoint_state, on_packet, on_no_packet}

-- ---- the calls that change an end, but for those that take what was emitted

pub data Call : Type 0 where
  Connect : Call
  Close : Call
  Shutdown : Call
  Send : Message → SendOptions → Call
  SendMany : List Message → SendOptions → Call
  ResetStreams : (streams : List ℕ) → Call
  TakeMessage : Call
  SetLowThreshold : (stream bytes : ℕ) → Call
  SetPriority : (stream priority : ℕ) → Call
  SetMaxMessageSize : (bytes : ℕ) → Call
  Advance : (now : ℕ) → Call
  HandOver : Call
  Restore : HandoverState → Call
  ReceivePacket : PacketTree → Call
  ReceiveNoPacket : Call

abbrev pub called : {P : Type 0} → Call → Endpoint P → Endpoint P
called Connect s = connect s
called Close s = in_endpoint_state close s
called Shutdown s = in_endpoint_state shutdown s
called (Send m o) s = in_endpoint_state (send m o) s
called (SendMany ms o) s = in_endpoint_state (send_many ms o) s
called (ResetStreams streams) s = in_endpoint_state (reset_streams streams) s
called TakeMessage s = in_endpoint_state take_message s
called (SetLowThreshold stream bytes) s = in_endpoint_state (in_context (set_low_threshold stream bytes)) s
called (SetPriority stream priority) s = in_endpoint_state (in_context (set_priority stream priority)) s
called (SetMaxMessageSize bytes) s = in_endpoint_state (in_context (set_max_message_size bytes)) s
called (Advance now) s = in_endpoint_state (advance now) s
called HandOver s = in_endpoint_state hand_over s
called (Restore h) s = in_endpoint_state (restore h) s
called (ReceivePacket p) s = on_packet p s
called ReceiveNoPacket s = on_no_packet s

-- ---- packets

-- a packet whose chunks and common header are at most so many bytes
pub record IsWithin {P : Type 0} (pack : Packing P) (most : ℕ) (p : P) : Type 0 where
  pub header : HeaderTree
  pub is_summed : Bool
  pub chunks : List ChunkTree
  pub made : p ≡ pack.write header is_summed chunks
  pub short : 12 + length (chunks_bytes chunks) ≤ most

-- only packets are asked for it
abbrev pub IsShort : {P : Type 0} → Packing P → (most : ℕ) → Event P → Type 0
IsShort pack most (SendPacket p) = IsWithin pack most p
IsShort pack most e = Unit {0}

-- What was emitted stands, and each packet emitted behind it is within the mtu, which stays.
pub record StaysWithin {P : Type 0} (before after : Context P) : Type 0 where
  pub mtu : after.options.mtu ≡ before.options.mtu
  pub pack : after.pack ≡ before.pack
  pub events : List (Event P)
  pub behind : after.emitted.events ≡ before.emitted.events ++ events
  pub short : All (IsShort before.pack before.options.mtu) events

-- the same of packets as bytes
abbrev pub HasAtMost : (most : ℕ) → Event (List ℕ) → Type 0
HasAtMost most (SendPacket bytes) = length bytes ≤ most
HasAtMost most e = Unit {0}

pub record SendsAtMost (most : ℕ) (before after : Context (List ℕ)) : Type 0 where
  pub events : List (Event (List ℕ))
  pub behind : after.emitted.events ≡ before.emitted.events ++ events
  pub short : All (HasAtMost most) events

-- ---- endings

-- the events that say that there is no association any more
abbrev pub ending : {P : Type 0} → Event P → ℕ
ending OnClosed = 1
ending (OnAborted kind text) = 1
ending e = 0

abbrev pub endings : {P : Type 0} → List (Event P) → ℕ
endings [] = 0
endings (e ∷ es) = ending e + endings es

abbrev pub is_closed : State → Bool
is_closed Closed = true
is_closed (CookieWait tag first t1) = false
is_closed (Open phase t) = false

-- the end is closed, and wasn't: an association, or an attempt at one, has ended, and none is in its place
abbrev pub ends : (before after : State) → ℕ
ends Closed after = 0
ends (CookieWait tag first t1) Closed = 1
ends (CookieWait tag first t1) (CookieWait new_tag new_first new_t1) = 0
ends (CookieWait tag first t1) (Open phase t) = 0
ends (Open phase t) Closed = 1
ends (Open phase t) (CookieWait tag first t1) = 0
ends (Open phase t) (Open new_phase u) = 0

-- how often the chunks of a packet close the end
abbrev pub endings_after : {P : Type 0} → (Endpoint P → ℕ) → AfterChunk P → ℕ
endings_after rest h = elim h.allows_next [ true ↦ rest h.end | false ↦ 0 ]

abbrev pub endings_by : {P : Type 0} → (tag : ℕ) → List ChunkTree → Endpoint P → ℕ
endings_by tag [] s = 0
endings_by tag (chunk ∷ chunks) s =
    ends s.endpoint_state.state (receive tag chunk s).end.endpoint_state.state + endings_after (endings_by tag chunks) (receive tag chunk s)

abbrev pub endings_unless : {P : Type 0} → (refusal : Option (List ℕ)) → (tag : ℕ) → List ChunkTree → Endpoint P → ℕ
endings_unless None tag chunks s = endings_by tag chunks (in_endpoint_state (repeats_if (has_data_chunk chunks)) s)
endings_unless (Some text) tag chunks s = 0

abbrev pub endings_in : {P : Type 0} → PacketTree → Endpoint P → ℕ
endings_in p s = endings_unless (packet_refusal p.header.verification_tag p.chunks s.endpoint_state.state) p.header.verification_tag p.chunks (count_packet_at s)

-- how often a call closes the end: once at most, but in a packet, where a COOKIE ECHO may follow an ABORT
abbrev pub endings_in_call : {P : Type 0} → Call → Endpoint P → ℕ
endings_in_call (ReceivePacket p) s = endings_in p s
endings_in_call call s = ends s.endpoint_state.state (called call s).endpoint_state.state

-- What was emitted stands, and behind it so many endings are emitted.
pub record EmitsEndings {P : Type 0} (count : ℕ) (before after : Context P) : Type 0 where
  pub events : List (Event P)
  pub behind : after.emitted.events ≡ before.emitted.events ++ events
  pub counted : endings events ≡ count

-- ---- the laws

-- by the chunks of each packet; an mtu of valid options holds the 12 bytes of a header
abbrev pub EachCallStaysWithin : Type 0
EachCallStaysWithin =
    (call : Call) (s : Endpoint (List ℕ)) → 12 ≤ s.endpoint_state.context.options.mtu → StaysWithin s.endpoint_state.context (called call s).endpoint_state.context

-- by its bytes
abbrev pub EachCallSendsAtMost : Type 0
EachCallSendsAtMost =
    (word_of : List ℕ → ℕ) (call : Call) (s : Endpoint (List ℕ)) → s.endpoint_state.context.pack ≡ writing word_of → 12 ≤ s.endpoint_state.context.options.mtu
    → SendsAtMost s.endpoint_state.context.options.mtu s.endpoint_state.context (called call s).endpoint_state.context

-- as many endings as the call closes the end
abbrev pub EachCallEmitsEndings : Type 0
EachCallEmitsEndings =
    (call : Call) (s : Endpoint (List ℕ)) → EmitsEndings (endings_in_call call s) s.endpoint_state.context (called call s).endpoint_state.context

-- and a call that leaves an end closed which was not counts one ending at least
abbrev pub EachClosingEnds : Type 0
EachClosingEnds =
    (call : Call) (s : Endpoint (List ℕ)) → is_closed s.endpoint_state.state ≡ false → is_closed (called call s).endpoint_state.state ≡ true → 1 ≤ endings_in_call call s
