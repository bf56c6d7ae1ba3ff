-- What a sound end emits can be read back, and is received as what it put together; and it stays sound.
use Rattle.std.specs.Prelude.{◌≡◌, ℕ, ◌+◌, ◌≤◌, ◌==◌, ◌||◌, not, true, Some, List, ◌++◌, length, All}
use Rattle.rand_core.specs.Stream.{Stream}
use Rattle.sctp_wire.specs.declared.checksum.Policy.{Policy}
use Rattle.sctp_packet.specs.Grammar.{Each}
use Rattle.sctp_packet.specs.Written.{chunks_bytes}
use Rattle.sctp_packet.specs.Packet.{PacketTree, FitsHeader, Accepts}
use Rattle.sctp_packet.specs.ReadBack.{ChunkReadsBack}
use Rattle.sctp_state.specs.Options.{Options}
use Rattle.sctp_state.specs.Events.{Event, SendPacket}
use Rattle.spec_endpoint.specs.Association.{Context, Endpoint, fresh, Packing}
use Rattle.spec_endpoint.specs.Input.{packet_refusal, on_packet}
use Rattle.spec_endpoint.specs.Wire.{writing, AreBytes}
use Rattle.spec_endpoint.specs.Receiving.{Receives}
use Rattle.spec_endpoint.specs.Laws.{Call, ReceivePacket, called}
use Rattle.proof_endpoint.specs.Mapped.{Carried, as_carried, as_written}
use Rattle.proof_endpoint.specs.ReceivedBack.{as_received}
use Rattle.proof_endpoint.specs.Sound.{OptionsFit, IsSound, ArgumentFits, HasSomeCookie}

-- ---- packets that are emitted

-- its header fits, and each of its chunks can be read back; it has at most so many bytes
pub record ReadsBack (most : ℕ) (p : Carried) : Type 0 where
  pub header : FitsHeader p.header
  pub chunks : All ChunkReadsBack p.chunks
  pub cookies : All HasSomeCookie p.chunks
  pub short : 12 + length (chunks_bytes p.chunks) ≤ most

-- it goes out as a packet of chunks that do
pub record IsOfSuch {P : Type 0} (pack : Packing P) (most : ℕ) (p : P) : Type 0 where
  pub carried : Carried
  pub made : p ≡ pack.write carried.header carried.is_summed carried.chunks
  pub reads_back : ReadsBack most carried

-- only packets are asked for it
abbrev pub CanBeRead : {P : Type 0} → Packing P → (most : ℕ) → Event P → Type 0
CanBeRead pack most (SendPacket p) = IsOfSuch pack most p
CanBeRead pack most e = Unit {0}

-- What was emitted stands, and each packet emitted behind it can be read back.
pub record EmitsWhatCanBeRead {P : Type 0} (before after : Context P) : Type 0 where
  pub events : List (Event P)
  pub behind : after.emitted.events ≡ before.emitted.events ++ events
  pub can_be_read : All (CanBeRead before.pack before.options.mtu) events

-- the same of packets that are lists of chunks
abbrev pub ReadsBackIn : (most : ℕ) → Event Carried → Type 0
ReadsBackIn most (SendPacket p) = ReadsBack most p
ReadsBackIn most e = Unit {0}

pub record EmitsWhatReadsBack (before after : Context Carried) : Type 0 where
  pub events : List (Event Carried)
  pub behind : after.emitted.events ≡ before.emitted.events ++ events
  pub reads_back : All (ReadsBackIn before.options.mtu) events

-- ---- packets that are received

-- a packet without a checksum is let through: the receiver has a method other than 0, or looks at no checksum
abbrev pub LetsThrough : Options → Carried → Type 0
LetsThrough o p = (o.disable_checksum_verification || (p.is_summed || not (o.zero_checksum_method == 0))) ≡ true

-- Each end that lets its checksum through receives the bytes as this packet, and as nothing else.
pub record IsReceivedAs (word_of : List ℕ → ℕ) (bytes : List ℕ) (p : Carried) : Type 0 where
  pub spelled : bytes ≡ as_written word_of p
  pub received : (s : Endpoint (List ℕ)) → LetsThrough s.endpoint_state.context.options p → Receives word_of bytes s (on_packet (as_received word_of p) s)
  pub alone : (s t : Endpoint (List ℕ)) → LetsThrough s.endpoint_state.context.options p → Receives word_of bytes s t → t ≡ on_packet (as_received word_of p) s

abbrev pub CanBeReceived : (word_of : List ℕ → ℕ) → Event (List ℕ) → Type 0
CanBeReceived word_of (SendPacket bytes) = (p : Carried) × IsReceivedAs word_of bytes p
CanBeReceived word_of e = Unit {0}

pub record EmitsWhatCanBeReceived (word_of : List ℕ → ℕ) (before after : Context (List ℕ)) : Type 0 where
  pub events : List (Event (List ℕ))
  pub behind : after.emitted.events ≡ before.emitted.events ++ events
  pub can_be_received : All (CanBeReceived word_of) events

-- the packet as the chunks that were put together
abbrev pub IsReceivedAsWritten : (word_of : List ℕ → ℕ) → Event Carried → Type 0
IsReceivedAsWritten word_of (SendPacket p) = IsReceivedAs word_of (as_written word_of p) p
IsReceivedAsWritten word_of e = Unit {0}

pub record EmitsWhatIsReceived (word_of : List ℕ → ℕ) (before after : Context Carried) : Type 0 where
  pub events : List (Event Carried)
  pub behind : after.emitted.events ≡ before.emitted.events ++ events
  pub received : All (IsReceivedAsWritten word_of) events

-- ---- the laws

abbrev pub NewEndsAreSound : Type 0
NewEndsAreSound = (o : Options) (pack : Packing (List ℕ)) (draws : Stream) → OptionsFit o → IsSound (fresh o pack draws)

abbrev pub EachCallKeepsEndsSound : Type 0
EachCallKeepsEndsSound = (call : Call) (s : Endpoint (List ℕ)) → IsSound s → ArgumentFits call → IsSound (called call s)

-- a packet that an end refuses may hold anything
abbrev pub RefusedPacketsKeepEndsSound : Type 0
RefusedPacketsKeepEndsSound =
    (p : PacketTree) (text : List ℕ) (s : Endpoint (List ℕ)) → IsSound s → packet_refusal p.header.verification_tag p.chunks s.endpoint_state.state ≡ Some text
    → IsSound (on_packet p s)

-- each packet as the chunks that were put together
abbrev pub EmittedChunksReadBack : Type 0
EmittedChunksReadBack =
    (call : Call) (s : Endpoint Carried) → s.endpoint_state.context.pack ≡ as_carried → IsSound s → ArgumentFits call
    → EmitsWhatReadsBack s.endpoint_state.context (called call s).endpoint_state.context

-- and so it is received, once it is written
abbrev pub EmittedChunksAreReceived : Type 0
EmittedChunksAreReceived =
    (word_of : List ℕ → ℕ) (call : Call) (s : Endpoint Carried) → s.endpoint_state.context.pack ≡ as_carried → IsSound s → ArgumentFits call
    → EmitsWhatIsReceived word_of s.endpoint_state.context (called call s).endpoint_state.context

-- each packet as bytes, however it is written
abbrev pub EmittedPacketsCanBeRead : Type 0
EmittedPacketsCanBeRead =
    (call : Call) (s : Endpoint (List ℕ)) → IsSound s → ArgumentFits call → EmitsWhatCanBeRead s.endpoint_state.context (called call s).endpoint_state.context

abbrev pub RefusalsCanBeRead : Type 0
RefusalsCanBeRead =
    (p : PacketTree) (text : List ℕ) (s : Endpoint (List ℕ)) → IsSound s → packet_refusal p.header.verification_tag p.chunks s.endpoint_state.state ≡ Some text
    → EmitsWhatCanBeRead s.endpoint_state.context (on_packet p s).endpoint_state.context

abbrev pub EmittedPacketsCanBeReceived : Type 0
EmittedPacketsCanBeReceived =
    (word_of : List ℕ → ℕ) (call : Call) (s : Endpoint (List ℕ)) → s.endpoint_state.context.pack ≡ writing word_of → IsSound s → ArgumentFits call
    → EmitsWhatCanBeReceived word_of s.endpoint_state.context (called call s).endpoint_state.context

-- ---- packets fit as arguments

-- what a reader makes of bytes
abbrev pub AcceptedPacketsFit : Type 0
AcceptedPacketsFit =
    (policy : Policy) (word : ℕ) (bytes : List ℕ) (p : PacketTree) → AreBytes bytes → Accepts policy word bytes p → Each HasSomeCookie p.chunks
    → ArgumentFits (ReceivePacket p)

-- what a reader makes of the bytes that a sound end emitted
abbrev pub EmittedPacketsFit : Type 0
EmittedPacketsFit =
    (word_of : List ℕ → ℕ) (most : ℕ) (p : Carried) (policy : Policy) (word : ℕ) (q : PacketTree) → ReadsBack most p → AreBytes (as_written word_of p)
    → Accepts policy word (as_written word_of p) q → ArgumentFits (ReceivePacket q)
