-- What C sees of an event: a kind, numbers, and bytes.
use Rattle.std.specs.Prelude.{◌≡◌, ◌<◌, ◌/◌, ◌%◌, ◌==◌, ℕ, Bool, true, false, if◌then◌else◌, List, [], ◌∷◌, codes, length, take}
use Rattle.std.specs.List.{flat_map, starts_with}
use Rattle.sctp_state.specs.Events.{Event, SendPacket, OnConnected, OnClosed, OnConnectionRestarted, OnAborted, OnError, OnBufferedAmountLow, OnTotalBufferedAmountLow, OnStreamsResetFailed, OnStreamsResetPerformed, OnIncomingStreamReset, OnLifecycleMessageFullySent, OnLifecycleMessageMaybeExpired, OnLifecycleMessageExpired, OnLifecycleMessageDelivered, OnLifecycleEnd}
use Rattle.sctp_state.specs.declared.api.ErrorKind.{ErrorKind}
use Rattle.sctp_state.specs.declared.api.ErrorKind.TheVariants as kinds
use Rattle.sctp_c_records.specs.Layout.{in_turn, put_u32, put_u64}
use Rattle.sctp_c_records.specs.declared.event.EventRecord.{EventRecord}

abbrev pub error_number : ErrorKind → ℕ
error_number kinds.NoError = 0
error_number kinds.TooManyRetries = 1
error_number kinds.NotConnected = 2
error_number kinds.ParseFailed = 3
error_number kinds.WrongSequence = 4
error_number kinds.PeerReported = 5
error_number kinds.ProtocolViolation = 6
error_number kinds.ResourceExhaustion = 7
error_number kinds.UnsupportedOperation = 8

abbrev pub begins : (text words : List ℕ) → Bool
begins = starts_with ◌==◌

-- the code of the error cause whose text begins this one (RFC 9260 section 3.3.10), 0 where none is known
abbrev pub cause_in : List ℕ → ℕ
cause_in text =
    if begins text (codes "MISSING MANDATORY PARAMETER") then 2 else if begins text (codes "UNRECOGNIZED CHUNK") then 6
    else if begins text (codes "NO USER DATA") then 9 else if begins text (codes "COOKIE RECEIVED WHILE SHUTTING DOWN") then 10
    else if begins text (codes "USER INITIATED ABORT") then 12 else if begins text (codes "PROTOCOL VIOLATION") then 13 else 0

-- what a peer reports begins with its first cause
abbrev pub cause_of : ErrorKind → List ℕ → ℕ
cause_of kinds.PeerReported text = cause_in text
cause_of kind text = 0

-- an event of a kind, with its error, its stream and its message, 0 where it has none
abbrev pub shown : (kind error stream lifecycle length : ℕ) → EventRecord
shown kind error stream lifecycle length = record { kind = kind; error = error; stream = stream; cause = 0; lifecycle = lifecycle; length = length }

-- an event of an error, but for the length of its text
abbrev pub faulty : (kind : ℕ) → ErrorKind → (text : List ℕ) → EventRecord
faulty kind error text = record { kind = kind; error = error_number error; stream = 0; cause = cause_of error text; lifecycle = 0; length = 0 }

abbrev pub low_first : ℕ → List ℕ
low_first n = n % 256 ∷ n / 256 ∷ []

-- a packet, a text, or streams, each in two bytes, the low one first
abbrev pub bytes_of : Event (List ℕ) → List ℕ
bytes_of (SendPacket bytes) = bytes
bytes_of OnConnected = []
bytes_of OnClosed = []
bytes_of OnConnectionRestarted = []
bytes_of (OnAborted kind text) = text
bytes_of (OnError kind text) = text
bytes_of (OnBufferedAmountLow stream) = []
bytes_of OnTotalBufferedAmountLow = []
bytes_of (OnStreamsResetFailed streams) = flat_map low_first streams
bytes_of (OnStreamsResetPerformed streams) = flat_map low_first streams
bytes_of (OnIncomingStreamReset streams) = flat_map low_first streams
bytes_of (OnLifecycleMessageFullySent id) = []
bytes_of (OnLifecycleMessageMaybeExpired id) = []
bytes_of (OnLifecycleMessageExpired id) = []
bytes_of (OnLifecycleMessageDelivered id) = []
bytes_of (OnLifecycleEnd id) = []

-- the record of an event, but for the length of its bytes
abbrev pub head_of : Event (List ℕ) → EventRecord
head_of (SendPacket bytes) = shown 0 0 0 0 0
head_of OnConnected = shown 1 0 0 0 0
head_of OnClosed = shown 2 0 0 0 0
head_of OnConnectionRestarted = shown 3 0 0 0 0
head_of (OnAborted kind text) = faulty 4 kind text
head_of (OnError kind text) = faulty 5 kind text
head_of (OnBufferedAmountLow stream) = shown 6 0 stream 0 0
head_of OnTotalBufferedAmountLow = shown 7 0 0 0 0
head_of (OnStreamsResetFailed streams) = shown 8 0 0 0 0
head_of (OnStreamsResetPerformed streams) = shown 9 0 0 0 0
head_of (OnIncomingStreamReset streams) = shown 10 0 0 0 0
head_of (OnLifecycleMessageFullySent id) = shown 11 0 0 id 0
head_of (OnLifecycleMessageMaybeExpired id) = shown 12 0 0 id 0
head_of (OnLifecycleMessageExpired id) = shown 13 0 0 id 0
head_of (OnLifecycleMessageDelivered id) = shown 14 0 0 id 0
head_of (OnLifecycleEnd id) = shown 15 0 0 id 0

abbrev pub with_length : ℕ → EventRecord → EventRecord
with_length n r = record r { length = n }

abbrev pub record_of : Event (List ℕ) → EventRecord
record_of e = with_length (length (bytes_of e)) (head_of e)

-- bytes were copied into a buffer, or are too many for it
abbrev pub Copied : (fits : Bool) → (bytes old new : List ℕ) → Type 0
Copied true bytes old new = take (length bytes) new ≡ bytes
Copied false bytes old new = length old < length bytes

-- the struct of C, behind its size
abbrev pub event_bytes : EventRecord → List ℕ → List ℕ
event_bytes r = in_turn (put_u32 8 r.kind ∷ put_u32 12 r.error ∷ put_u32 16 r.stream ∷ put_u32 20 r.cause ∷ put_u64 24 r.lifecycle ∷ put_u64 32 r.length ∷ [])
