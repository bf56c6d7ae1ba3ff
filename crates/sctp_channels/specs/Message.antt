-- The messages that open a channel, as bytes (RFC 8832 section 5).
use Rattle.std.specs.Prelude.{◌≡◌, ◌≢◌, ◌⊎◌, ℕ, ◌+◌, ◌<◌, ◌^◌, ◌==◌, ◌||◌, Bool, true, false, List, [], ◌∷◌, ◌++◌, length}
use Rattle.std.specs.Str.{IsUtf8}
use Rattle.sctp_wire.specs.Field.{be16, be32}
use Rattle.sctp_channels.specs.declared.fault.ChannelMessageFault.{ChannelMessageFault}
use Rattle.sctp_channels.specs.declared.fault.ChannelMessageFault.TheVariants as faults
use Rattle.sctp_channels.specs.declared.header.Header.{Header}
use Rattle.sctp_channels.specs.declared.reliability.Reliability.{Reliability}
use Rattle.sctp_channels.specs.declared.reliability.Reliability.TheVariants.{Reliable, MaxRetransmissions, MaxLifetime}

-- what DATA_CHANNEL_OPEN says; texts are UTF-8
pub record Open : Type 0 where
  pub unordered : Bool
  pub reliability : Reliability
  pub priority : ℕ
  pub label : List ℕ
  pub protocol : List ℕ

pub data Establishment : Type 0 where
  opens : (o : Open) → Establishment
  acknowledges : Establishment

-- Channel Type
abbrev pub channel_type : Bool → Reliability → ℕ
channel_type false Reliable = 0x00
channel_type false (MaxRetransmissions count) = 0x01
channel_type false (MaxLifetime milliseconds) = 0x02
channel_type true Reliable = 0x80
channel_type true (MaxRetransmissions count) = 0x81
channel_type true (MaxLifetime milliseconds) = 0x82

abbrev pub is_channel_type : ℕ → Bool
is_channel_type t = (t == 0x00) || ((t == 0x01) || ((t == 0x02) || ((t == 0x80) || ((t == 0x81) || (t == 0x82)))))

-- Reliability Parameter, as it is written
abbrev pub parameter : Reliability → ℕ
parameter Reliable = 0
parameter (MaxRetransmissions count) = count
parameter (MaxLifetime milliseconds) = milliseconds

-- and as it is read: that of a reliable channel is ignored
abbrev pub MeansParameter : Reliability → ℕ → Type 0
MeansParameter Reliable n = Unit {0}
MeansParameter (MaxRetransmissions count) n = count ≡ n
MeansParameter (MaxLifetime milliseconds) n = milliseconds ≡ n

-- what is between the message type and the label
unfoldable pub header_bytes : Header → List ℕ
header_bytes h = h.channel_type ∷ (be16 h.priority ++ (be32 h.parameter ++ (be16 h.label_length ++ be16 h.protocol_length)))

pub record HeaderFits (h : Header) : Type 0 where
  pub priority : h.priority < 2 ^ 16
  pub parameter : h.parameter < 2 ^ 32
  pub label_length : h.label_length < 2 ^ 16
  pub protocol_length : h.protocol_length < 2 ^ 16

-- a DATA_CHANNEL_OPEN begins with these fields, and this is behind them
pub record Begins (bytes : List ℕ) (h : Header) (rest : List ℕ) : Type 0 where
  pub joined : bytes ≡ 3 ∷ (header_bytes h ++ rest)
  pub fits : HeaderFits h

-- the fields of what is opened, with this parameter
abbrev pub header_of : Open → ℕ → Header
header_of o n = record { channel_type = channel_type o.unordered o.reliability; priority = o.priority; parameter = n; label_length = length o.label; protocol_length = length o.protocol }

-- the bytes of DATA_CHANNEL_OPEN as they are written
unfoldable pub open_bytes : Open → List ℕ
open_bytes o = 3 ∷ (header_bytes (header_of o (parameter o.reliability)) ++ (o.label ++ o.protocol))

abbrev pub message_bytes : Establishment → List ℕ
message_bytes (opens o) = open_bytes o
message_bytes acknowledges = 2 ∷ []

-- the bytes say what is opened
pub record SaysOpen (bytes : List ℕ) (o : Open) : Type 0 where
  pub number : ℕ
  pub begins : Begins bytes (header_of o number) (o.label ++ o.protocol)
  pub means : MeansParameter o.reliability number
  pub label : IsUtf8 o.label
  pub protocol : IsUtf8 o.protocol

abbrev pub Says : List ℕ → Establishment → Type 0
Says bytes (opens o) = SaysOpen bytes o
Says bytes acknowledges = bytes ≡ 2 ∷ []

-- each field of what is opened holds its value
pub record OpenFits (o : Open) : Type 0 where
  pub priority : o.priority < 2 ^ 16
  pub parameter : parameter o.reliability < 2 ^ 32
  pub label_length : length o.label < 2 ^ 16
  pub protocol_length : length o.protocol < 2 ^ 16
  pub label : IsUtf8 o.label
  pub protocol : IsUtf8 o.protocol

abbrev pub MessageFits : Establishment → Type 0
MessageFits (opens o) = OpenFits o
MessageFits acknowledges = Unit {0}

-- the lengths of both texts fit their fields
abbrev pub HasShortTexts : Open → Type 0
HasShortTexts o = (length o.label < 2 ^ 16) × (length o.protocol < 2 ^ 16)

abbrev pub MessageHasShortTexts : Establishment → Type 0
MessageHasShortTexts (opens o) = HasShortTexts o
MessageHasShortTexts acknowledges = Unit {0}

-- a DATA_CHANNEL_OPEN of a known channel type, whose lengths are those of these texts
pub record Splits (bytes : List ℕ) (h : Header) (label protocol : List ℕ) : Type 0 where
  pub begins : Begins bytes h (label ++ protocol)
  pub known : is_channel_type h.channel_type ≡ true
  pub label_length : length label ≡ h.label_length
  pub protocol_length : length protocol ≡ h.protocol_length

-- The bytes say nothing, for the first reason of these in their order; any bytes may want memory.
abbrev pub RefusedAs : List ℕ → ChannelMessageFault → Type 0
RefusedAs bytes faults.TooShort = (bytes ≡ []) ⊎ ((rest : List ℕ) × (bytes ≡ 3 ∷ rest) × (length rest < 11))
RefusedAs bytes faults.UnknownMessageType = (typ : ℕ) × (rest : List ℕ) × (bytes ≡ typ ∷ rest) × (typ ≢ 2) × (typ ≢ 3)
RefusedAs bytes faults.UnknownChannelType = (h : Header) × (rest : List ℕ) × Begins bytes h rest × (is_channel_type h.channel_type ≡ false)
RefusedAs bytes faults.LengthMismatch =
    ((rest : List ℕ) × (bytes ≡ 2 ∷ rest) × (0 < length rest))
    ⊎ ((h : Header) × (rest : List ℕ) × Begins bytes h rest × (is_channel_type h.channel_type ≡ true) × (length rest ≢ h.label_length + h.protocol_length))
RefusedAs bytes faults.LabelNotUtf8 = (h : Header) × (label : List ℕ) × (protocol : List ℕ) × Splits bytes h label protocol × (IsUtf8 label → ⊥)
RefusedAs bytes faults.ProtocolNotUtf8 =
    (h : Header) × (label : List ℕ) × (protocol : List ℕ) × Splits bytes h label protocol × IsUtf8 label × (IsUtf8 protocol → ⊥)
RefusedAs bytes faults.Memory = Unit {0}
