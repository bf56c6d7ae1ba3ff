-- What a call through a handle does to the socket behind it.
use Rattle.std.specs.Prelude.{◌≡◌, ℕ, Option, Some, None, List, [], ◌∷◌}
use Rattle.rand_core.specs.Steps.{stream_of, steps_u32}
use Rattle.rand_core.specs.Stream.{Stream}
use Rattle.rand_chacha.specs.ChaCha.{ChaCha, next_word}
use Rattle.sctp_association.specs.Socket.{SocketValue, Ends, endpoint}
use Rattle.sctp_c_calls.specs.Answers.{ending_at}
use Rattle.sctp_c_records.specs.Answers.{IsAmong, OnAnswer}
use Rattle.sctp_c_calls.specs.Handover.{record_of, record_or}
use Rattle.sctp_c_records.specs.Checksum.{word_by}
use Rattle.sctp_c_records.specs.declared.checksum.PacketChecksum.{PacketChecksum}
use Rattle.sctp_state.specs.Handover.{HandoverState}
use Rattle.spec_endpoint.specs.Association.{Endpoint as End}
use Rattle.sctp_c.specs.declared.endpoint.Endpoint.{Endpoint}

abbrev pub CSocket : Type 0
CSocket = SocketValue ChaCha PacketChecksum

abbrev pub stream : ChaCha → Stream
stream = stream_of (steps_u32 (next_word 10))

-- the end that the socket is
abbrev pub end_of : CSocket → End (List ℕ)
end_of s = endpoint stream word_by s

-- the record that the next call hands out
abbrev pub record_at : Endpoint → HandoverState
record_at e = record_or (record_of e.handed_over) (end_of e.socket).endpoint_state

-- A handle with a socket makes the call on it. One without answers 3, and stays so.
abbrev pub Answers : (call : Endpoint → ℕ → Endpoint → Type 0) → (old : Option Endpoint) → ℕ → (new : Option Endpoint) → Type 0
Answers call None n new = (n ≡ 3) × (new ≡ None)
Answers call (Some e) n None = ⊥
Answers call (Some e) n (Some f) = call e n f

-- the event and the record that are kept stay, and the channels
abbrev pub OnSocket : (call : CSocket → ℕ → CSocket → Type 0) → Endpoint → ℕ → Endpoint → Type 0
OnSocket call e n f = call e.socket n f.socket × ((f.event ≡ e.event) × (f.handed_over ≡ e.handed_over) × (f.channels ≡ e.channels))

-- a changing call: done, or out of memory, now or earlier
abbrev pub Makes : (effect : CSocket → End (List ℕ) → Type 0) → (old : Option Endpoint) → ℕ → (new : Option Endpoint) → Type 0
Makes effect = Answers (OnSocket (λ s n t. IsAmong (0 ∷ 1 ∷ 2 ∷ []) n × (Ends (ending_at n) s t × OnAnswer 0 n (effect s (end_of t)))))

-- a question changes nothing
abbrev pub Tells : (answer : CSocket → Type 0) → (old : Option Endpoint) → ℕ → (new : Option Endpoint) → Type 0
Tells answer = Answers (λ e n f. answer e.socket × ((n ≡ 0) × (f ≡ e)))
