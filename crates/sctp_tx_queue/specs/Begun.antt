-- Without interleaving a begun message is ended before another begins, also one of another stream: its fragments have
-- numbers in sequence (RFC 9260 section 6.9). And what the fragments of a message are together.
use Rattle.std.specs.Prelude.{◌≡◌, ◌⊎◌, ℕ, ◌&&◌, nat_lt, Bool, true, false, if◌then◌else◌, Option, Some, None, is_some, List, [], ◌∷◌, ◌++◌, drop, take}
use Rattle.sctp_tx_queue.specs.declared.send_queue.message.MessageNumbers.{MessageNumbers}
use Rattle.sctp_state.specs.Events.{Emitted}
use Rattle.sctp_tx_queue.specs.declared.send_queue.stream.ResetStep.{ResetStep}
use Rattle.sctp_tx_queue.specs.SendQueue.{Queued, Queue, stream, add}
use Rattle.sctp_tx_queue.specs.Produced.{Produced, move_past, ends}
use Rattle.sctp_tx_queue.specs.Settings.{set_low_threshold, set_priority, set_mode, discard}
use Rattle.sctp_tx_queue.specs.Resets.{prepare_reset, each_stepped}
use Rattle.sctp_tx_queue.specs.Restarted.{reset}
use Rattle.sctp_tx_queue.specs.Emptied.{empty}

-- the number of the first message, if it is partly sent
abbrev pub begun_number : List Queued → Option ℕ
begun_number [] = None
begun_number (m ∷ rest) = if is_some m.numbers && nat_lt 0 m.offset then Some m.number else None

-- the first message of this stream has this number and is partly sent, and no other may go before its end
pub record IsBegun (id number : ℕ) (q : Queue) : Type 0 where
  pub begun : q.begun ≡ Some id
  pub message : begun_number (stream id q.streams).messages ≡ Some number

-- a message is begun by a fragment that isn't its end
abbrev pub Begins : Bool → Option Produced → Queue → Type 0
Begins is_interleaved made after = (p : Produced) → made ≡ Some p → is_interleaved ≡ false → p.fragment.is_end ≡ false → IsBegun p.fragment.stream_id p.number after

-- where one is begun, the next fragment is its
abbrev pub GoesOn : Queue → Option Produced → Type 0
GoesOn q made = (id number : ℕ) → IsBegun id number q → (p : Produced) × ((made ≡ Some p) × ((p.number ≡ number) × (p.fragment.stream_id ≡ id)))

-- a message that is begun stays so
abbrev pub StaysBegun : Queue → Queue → Type 0
StaysBegun q after = (id number : ℕ) → IsBegun id number q → IsBegun id number after

-- the same of any but this one, the message of a stream
abbrev pub OthersStayBegun : ℕ → ℕ → Queue → Queue → Type 0
OthersStayBegun stream message q after = (id number : ℕ) → IsBegun id number q → ((id ≡ stream) × (number ≡ message)) ⊎ IsBegun id number after

-- ---- calls between two fragments

abbrev pub AddedStays : Type 0
AddedStays = (id : ℕ) (m : Queued) (q : Queue) → StaysBegun q (add id m q)

abbrev pub ThresholdStays : Type 0
ThresholdStays = (id bytes : ℕ) (q : Queue) (emitted : Emitted (List ℕ)) → StaysBegun q (set_low_threshold id bytes q emitted).queue

abbrev pub PriorityStays : Type 0
PriorityStays = (id priority : ℕ) (q : Queue) → StaysBegun q (set_priority id priority q)

abbrev pub ModeStays : Type 0
ModeStays = (is_interleaved : Bool) (q : Queue) → StaysBegun q (set_mode is_interleaved q)

abbrev pub PreparedStays : Type 0
PreparedStays = (id : ℕ) (q : Queue) (emitted : Emitted (List ℕ)) → StaysBegun q (prepare_reset id q emitted).queue

-- requests, commits and refusals of resets
abbrev pub StepsStay : Type 0
StepsStay = (step : ResetStep) (ids : List ℕ) (q : Queue) → StaysBegun q (each_stepped step ids q)

abbrev pub DiscardStays : Type 0
DiscardStays = (id message : ℕ) (q : Queue) (emitted : Emitted (List ℕ)) → OthersStayBegun id message q (discard id message q emitted).queue

-- a new association begins with none
abbrev pub ResetEnds : Type 0
ResetEnds = (q : Queue) → (reset q).begun ≡ None

-- one that ended leaves none
abbrev pub EmptiedEnds : Type 0
EmptiedEnds = (q : Queue) (emitted : Emitted (List ℕ)) → (empty q emitted).queue.begun ≡ None

-- ---- the payloads of a message's fragments, of at most these sizes in turn, joined

abbrev pub fragments_payload : List ℕ → MessageNumbers → Queued → List ℕ
fragments_payload [] n m = []
fragments_payload (size ∷ sizes) n m = take size (drop m.offset m.payload) ++ (if ends size m then [] else fragments_payload sizes n (move_past size n m))

-- whether these are enough for what is left
abbrev pub is_ended : List ℕ → MessageNumbers → Queued → Bool
is_ended [] n m = false
is_ended (size ∷ sizes) n m = if ends size m then true else is_ended sizes n (move_past size n m)
