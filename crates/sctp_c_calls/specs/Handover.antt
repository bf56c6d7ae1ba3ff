-- A socket's record is handed out, and taken up by another one.
use Rattle.std.specs.Prelude.{◌≡◌, ◌==◌, ℕ, Option, Some, None, List, [], ◌∷◌, length, option_map, take}
use Rattle.rand_core.specs.Stream.{Stream}
use Rattle.sctp_association.specs.Socket.{Ends, SocketValue, endpoint}
use Rattle.sctp_c_calls.specs.Answers.{OnSettled, ending_at, restore_number}
use Rattle.sctp_c_records.specs.Answers.{IsAmong, OnAnswer, by_test}
use Rattle.sctp_handover.specs.Bounds.{RecordFits}
use Rattle.sctp_handover.specs.Bytes.{record_bytes}
use Rattle.sctp_state.specs.Handover.{HandoverState, handover_state_of}
use Rattle.sctp_state.specs.declared.api.errors.HandoverError.{HandoverError}
use Rattle.sctp_state.specs.declared.api.errors.HandoverError.TheVariants.{Failed, Memory, NotReady}
use Rattle.sctp_state.specs.declared.api.handover.SocketHandoverState.{SocketHandoverState}
use Rattle.spec_endpoint.specs.Association.{Endpoint, EndpointState}
use Rattle.spec_endpoint.specs.Handover.{hand_over, handed_over, readiness, restore_refusal_in, restore}
use Rattle.spec_endpoint.specs.Input.{in_endpoint_state}

-- ---- out

abbrev pub record_of : Option SocketHandoverState → Option HandoverState
record_of = option_map handover_state_of

-- the record that is kept, or else that of the socket
abbrev pub record_or : {P : Type 0} → Option HandoverState → EndpointState P → HandoverState
record_or None s = handed_over s
record_or (Some h) s = h

-- what stands in the way of the socket's
abbrev pub in_the_way : {P : Type 0} → Option HandoverState → EndpointState P → ℕ
in_the_way None s = readiness s
in_the_way (Some h) s = 0

-- the end whose record was taken; it was before, where one is kept
abbrev pub left_by : {P : Type 0} → Option HandoverState → Endpoint P → Endpoint P
left_by None e = in_endpoint_state hand_over e
left_by (Some h) e = e

abbrev pub OnNotReady : HandoverError → Type 0 → Type 0
OnNotReady (NotReady reasons) P = P
OnNotReady Memory P = Unit {0}
OnNotReady Failed P = Unit {0}

-- neither out of memory for good, now or earlier, nor not ready
abbrev pub IsTaken : ℕ → Type 0 → Type 0
IsTaken n P = by_test (n == 0) P (by_test (n == 9) P (OnAnswer 17 n P))

-- the bytes stand at the front of the buffer
abbrev pub Holds : (buffer bytes : List ℕ) → Type 0
Holds buffer bytes = take (length bytes) buffer ≡ bytes

-- ---- in

-- a record is taken up, or refused; 17 is want of memory before that, which changes nothing
abbrev pub Restores : {R C : Type 0} → (R → Stream) → (C → List ℕ → ℕ) → HandoverState → (before : SocketValue R C) → ℕ → (after : SocketValue R C) → Type 0
Restores stream_of word_of h before n after = by_test (n == 17) (after ≡ before) (Ends (ending_at n) before after
    × (OnSettled n (n ≡ restore_number (restore_refusal_in before.state h))
    × OnSettled n (endpoint stream_of word_of after ≡ in_endpoint_state (restore h) (endpoint stream_of word_of before))))

-- what the bytes are written of; no two records are written alike
abbrev pub IsRecord : List ℕ → HandoverState → Type 0
IsRecord bytes h = RecordFits h × (bytes ≡ record_bytes h)

abbrev pub IsNone : List ℕ → Type 0
IsNone bytes = (h : HandoverState) → IsRecord bytes h → ⊥

-- bytes that are no record change nothing
abbrev pub Refuses : {S : Type 0} → (before : S) → ℕ → (after : S) → Type 0
Refuses before n after = IsAmong (17 ∷ 20 ∷ []) n × (after ≡ before)
