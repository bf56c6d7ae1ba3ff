-- What holds along every schedule.
use Rattle.std.specs.Prelude.{◌≡◌, ◌≢◌, ℕ, ◌<◌, true, false, ◌⊎◌, List, ◌++◌, length, map, slice_index}
use Rattle.proof_protocol.specs.State.{Message, ReadyMessage, Transfer, count, has, stream_of, ordered_of}

abbrev pub ready_message : (ℕ → Message) → ℕ → ReadyMessage
ready_message message p = record { stream = (message p).stream; protocol_id = (message p).protocol_id; payload = (message p).payload }

-- what became ready is these accepted messages, each once and byte for byte, in order on each stream
pub record Fits (message : ℕ → Message) (x : Transfer) : Type 0 where
  pub alike : x.receiver.ready ≡ map (ready_message message) x.receiver.places
  pub accepted : (k : ℕ) → k < length x.receiver.places → slice_index x.receiver.places k < x.sender.accepted
  pub distinct : (j k : ℕ) → j < k → k < length x.receiver.places → slice_index x.receiver.places j ≢ slice_index x.receiver.places k
  pub rising : (j k : ℕ) → j < k → k < length x.receiver.places
      → ordered_of message (slice_index x.receiver.places j) ≡ true
      → ordered_of message (slice_index x.receiver.places k) ≡ true
      → stream_of message (slice_index x.receiver.places j) ≡ stream_of message (slice_index x.receiver.places k)
      → slice_index x.receiver.places j < slice_index x.receiver.places k

-- an ordered message that isn't ready, while a later one of its stream is, was given up
abbrev pub Skipped : (ℕ → Message) → Transfer → Type 0
Skipped message x = (p q : ℕ) → ordered_of message p ≡ true → ordered_of message q ≡ true → stream_of message p ≡ stream_of message q
    → p < q → has q x.receiver.places ≡ true → has p x.receiver.places ≡ false → x.sender.given_up p ≡ true

-- a message reported as delivered is ready
abbrev pub TrueReports : Transfer → Type 0
TrueReports x = (p : ℕ) → has p x.reports ≡ true → has p x.receiver.places ≡ true

-- nothing waits, nothing is partly sent, and no fragment is kept
pub record AtRest (x : Transfer) : Type 0 where
  pub no_queue : (p : ℕ) → p < x.sender.accepted → (x.sender.begun p ≡ true) ⊎ (x.sender.given_up p ≡ true)
  pub no_part : (p : ℕ) → x.sender.partly p ≡ false
  pub no_item : x.acknowledged ≡ count x.sender

-- at rest, each accepted message is ready or was given up
abbrev pub RestClaim : Transfer → Type 0
RestClaim x = AtRest x → (p : ℕ) → p < x.sender.accepted → (has p x.receiver.places ≡ true) ⊎ (x.sender.given_up p ≡ true)

pub record Claims (message : ℕ → Message) (x : Transfer) : Type 0 where
  pub fits : Fits message x
  pub skipped : Skipped message x
  pub reports : TrueReports x
  pub rest : RestClaim x

-- from x to y, what became ready only grew at its back
abbrev pub Grows : Transfer → Transfer → Type 0
Grows x y = (more : List ℕ) × (y.receiver.places ≡ x.receiver.places ++ more)
