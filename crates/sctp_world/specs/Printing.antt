-- What is printed of the log's entries and of packets.
use Rattle.std.specs.Prelude.{ℕ, Option, Some, None, List, [], ◌∷◌, ◌++◌, length, drop, slice_get, codes}
use Rattle.std.specs.List.{flat_map}
use Rattle.std.specs.Fmt.{decimal}
use Rattle.hex.specs.Hex.{encode_lower}
use Rattle.sctp_state.specs.declared.api.ErrorKind.{ErrorKind}
use Rattle.sctp_state.specs.declared.api.ErrorKind.TheVariants as kinds
use Rattle.sctp_state.specs.declared.api.GivenUpCause.{GivenUpCause}
use Rattle.sctp_state.specs.declared.api.GivenUpCause.TheVariants as causes
use Rattle.sctp_state.specs.declared.api.errors.ResetStreamsError.{ResetStreamsError}
use Rattle.sctp_state.specs.declared.api.errors.ResetStreamsError.TheVariants as resets
use Rattle.sctp_state.specs.declared.api.errors.SendError.{SendError}
use Rattle.sctp_state.specs.declared.api.errors.SendError.TheVariants as refusals
use Rattle.sctp_state.specs.Events.{Event, SendPacket, OnConnected, OnClosed, OnConnectionRestarted, OnAborted, OnError, OnBufferedAmountLow, OnTotalBufferedAmountLow, OnStreamsResetFailed, OnStreamsResetPerformed, OnIncomingStreamReset, OnLifecycleMessageFullySent, OnLifecycleMessageMaybeExpired, OnLifecycleMessageExpired, OnLifecycleMessageDelivered, OnLifecycleEnd}
use Rattle.sctp_serial.specs.Messages.{Message}
use Rattle.spec_world.specs.Observations.{End, Answer, Done, Sent, SentMany, TookMessage, AskedReset, HandedOver, NotReady, Entry, Called, Given, Foreign, Timed, Associated, EmittedPacket, EmittedEvent, GaveUp, BecameReady, end_name}
use Rattle.spec_world.specs.World.{World, side_of}

-- a kind, an event and a refusal are named as in the program's own types

abbrev pub kind_name : ErrorKind → List ℕ
kind_name kinds.NoError = codes "NoError"
kind_name kinds.TooManyRetries = codes "TooManyRetries"
kind_name kinds.NotConnected = codes "NotConnected"
kind_name kinds.ParseFailed = codes "ParseFailed"
kind_name kinds.WrongSequence = codes "WrongSequence"
kind_name kinds.PeerReported = codes "PeerReported"
kind_name kinds.ProtocolViolation = codes "ProtocolViolation"
kind_name kinds.ResourceExhaustion = codes "ResourceExhaustion"
kind_name kinds.UnsupportedOperation = codes "UnsupportedOperation"

abbrev pub event_name : Event (List ℕ) → List ℕ
event_name (SendPacket bytes) = codes "SendPacket"
event_name OnConnected = codes "OnConnected"
event_name OnClosed = codes "OnClosed"
event_name OnConnectionRestarted = codes "OnConnectionRestarted"
event_name (OnAborted kind text) = codes "OnAborted"
event_name (OnError kind text) = codes "OnError"
event_name (OnBufferedAmountLow stream) = codes "OnBufferedAmountLow"
event_name OnTotalBufferedAmountLow = codes "OnTotalBufferedAmountLow"
event_name (OnStreamsResetFailed streams) = codes "OnStreamsResetFailed"
event_name (OnStreamsResetPerformed streams) = codes "OnStreamsResetPerformed"
event_name (OnIncomingStreamReset streams) = codes "OnIncomingStreamReset"
event_name (OnLifecycleMessageFullySent id) = codes "OnLifecycleMessageFullySent"
event_name (OnLifecycleMessageMaybeExpired id) = codes "OnLifecycleMessageMaybeExpired"
event_name (OnLifecycleMessageExpired id) = codes "OnLifecycleMessageExpired"
event_name (OnLifecycleMessageDelivered id) = codes "OnLifecycleMessageDelivered"
event_name (OnLifecycleEnd id) = codes "OnLifecycleEnd"

abbrev pub refusal_name : SendError → List ℕ
refusal_name refusals.EmptyPayload = codes "EmptyPayload"
refusal_name (refusals.MessageTooLarge size limit) = codes "MessageTooLarge"
refusal_name refusals.ShuttingDown = codes "ShuttingDown"
refusal_name refusals.ResourceExhaustion = codes "ResourceExhaustion"
refusal_name refusals.Memory = codes "Memory"
refusal_name refusals.Failed = codes "Failed"

abbrev pub reset_refusal_name : ResetStreamsError → List ℕ
reset_refusal_name resets.NotConnected = codes "NotConnected"
reset_refusal_name resets.NotSupported = codes "NotSupported"
reset_refusal_name resets.Memory = codes "Memory"
reset_refusal_name resets.Failed = codes "Failed"

-- a number behind a space
abbrev pub number_word : ℕ → List ℕ
number_word n = codes " " ++ decimal n

-- behind the name: a kind and a text, stream ids, or a lifecycle id
abbrev pub event_words : Event (List ℕ) → List ℕ
event_words (SendPacket bytes) = []
event_words OnConnected = []
event_words OnClosed = []
event_words OnConnectionRestarted = []
event_words (OnAborted kind text) = codes " " ++ (kind_name kind ++ (codes ": " ++ text))
event_words (OnError kind text) = codes " " ++ (kind_name kind ++ (codes ": " ++ text))
event_words (OnBufferedAmountLow stream) = number_word stream
event_words OnTotalBufferedAmountLow = []
event_words (OnStreamsResetFailed streams) = flat_map number_word streams
event_words (OnStreamsResetPerformed streams) = flat_map number_word streams
event_words (OnIncomingStreamReset streams) = flat_map number_word streams
event_words (OnLifecycleMessageFullySent id) = number_word id
event_words (OnLifecycleMessageMaybeExpired id) = number_word id
event_words (OnLifecycleMessageExpired id) = number_word id
event_words (OnLifecycleMessageDelivered id) = number_word id
event_words (OnLifecycleEnd id) = number_word id

abbrev pub cause_words : GivenUpCause → List ℕ
cause_words causes.Lifetime = codes "lifetime"
cause_words (causes.Retransmissions count) = codes "retransmissions " ++ decimal count
cause_words causes.Reset = codes "reset"
cause_words causes.Ended = codes "ended"

-- ---- lines

abbrev pub packet_line : End → (number size : ℕ) → List ℕ
packet_line x number size = end_name x ++ (codes " packet " ++ (decimal number ++ (codes " " ++ (decimal size ++ (10 ∷ [])))))

abbrev pub event_line : End → (name words : List ℕ) → List ℕ
event_line x name words = end_name x ++ (codes " event " ++ (name ++ (words ++ (10 ∷ []))))

abbrev pub refusal_line : End → (name : List ℕ) → List ℕ
refusal_line x name = end_name x ++ (codes " refused " ++ (name ++ (10 ∷ [])))

abbrev pub message_line : End → Message → List ℕ
message_line x m = end_name x ++ (codes " message " ++ (decimal m.stream ++ (codes " " ++ (decimal m.ppid ++ (codes " " ++ (encode_lower m.payload ++ (10 ∷ [])))))))

abbrev pub none_line : End → List ℕ
none_line x = end_name x ++ (codes " none" ++ (10 ∷ []))

abbrev pub given_up_line : End → ℕ → (cause : List ℕ) → List ℕ
given_up_line x number cause = end_name x ++ (codes " given-up " ++ (decimal number ++ (codes " " ++ (cause ++ (10 ∷ [])))))

abbrev pub bytes_line : End → ℕ → (bytes : List ℕ) → List ℕ
bytes_line x number bytes = end_name x ++ (codes " bytes " ++ (decimal number ++ (codes " " ++ (encode_lower bytes ++ (10 ∷ [])))))

abbrev pub no_packet_line : List ℕ
no_packet_line = codes "no packet" ++ (10 ∷ [])

-- ---- entries

abbrev pub size_of : Option (List ℕ) → ℕ
size_of None = 0
size_of (Some bytes) = length bytes

abbrev pub foreign_line : List ℕ
foreign_line = codes "foreign skipped" ++ (10 ∷ [])

abbrev pub answer_text : End → Answer → List ℕ
answer_text x Done = []
answer_text x (Sent None) = []
answer_text x (Sent (Some e)) = refusal_line x (refusal_name e)
answer_text x (SentMany refused) = []
answer_text x (TookMessage None) = none_line x
answer_text x (TookMessage (Some m)) = message_line x m
answer_text x (AskedReset None) = []
answer_text x (AskedReset (Some e)) = refusal_line x (reset_refusal_name e)
answer_text x (HandedOver h) = []
answer_text x (NotReady readiness) = []

-- Answers, bytes that were skipped, packets, events, and messages given up; nothing of any other entry.
abbrev pub entry_text : World → Entry → List ℕ
entry_text w (Called x clock call answer) = answer_text x answer
entry_text w (Given x clock packet) = []
entry_text w (Foreign x clock None) = foreign_line
entry_text w (Foreign x clock (Some bytes)) = []
entry_text w (Timed x clock now) = []
entry_text w (Associated x a) = []
entry_text w (EmittedPacket x number) = packet_line x number (size_of (slice_get (side_of x w).packets number))
entry_text w (EmittedEvent x event) = event_line x (event_name event) (event_words event)
entry_text w (GaveUp x g) = given_up_line x g.number (cause_words g.cause)
entry_text w (BecameReady x m) = []

-- what the log says more than before
abbrev pub news_text : World → ℕ → List ℕ
news_text w before = flat_map (entry_text w) (drop before w.log)

-- the packet of this number
abbrev pub packet_text : End → ℕ → Option (List ℕ) → List ℕ
packet_text x number None = no_packet_line
packet_text x number (Some bytes) = bytes_line x number bytes
