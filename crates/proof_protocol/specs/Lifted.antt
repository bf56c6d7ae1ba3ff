-- A reassembly queue whose numbers count from the last reset of their stream, as they are on the wire, and the queue with the numbers of
-- the rules that it stands for. `base` says, by kind and stream, the number of the rules that is 0 on the wire now.
use Rattle.std.specs.Prelude.{◌≡◌, ℕ, ◌+◌, ◌-◌, ◌==◌, ◌||◌, nat_le, Bool, true, false, cond, Option, Some, None, map}
use Rattle.proof_protocol.specs.State.{Message, Entry, ForwardPoint, Sender, IsAmong, fragment, place_of, ordered_of, stream_of}
use Rattle.proof_protocol.specs.Reassembly.{Chunk, chunk_with, Queue, KeyOf, next_of}

-- where no stream was reset
abbrev pub no_base : Bool → ℕ → ℕ
no_base kind s = 0

module _ (base : Bool → ℕ → ℕ) where
  abbrev pub up_key : (is_interleaved : Bool) → KeyOf is_interleaved → KeyOf is_interleaved
  up_key false κ = κ
  up_key true κ = record κ { number = base κ.ordered κ.stream + κ.number }

  abbrev pub down_key : (is_interleaved : Bool) → KeyOf is_interleaved → KeyOf is_interleaved
  down_key false κ = κ
  down_key true κ = record κ { number = κ.number - base κ.ordered κ.stream }

  -- whether there is such a number on the wire
  abbrev pub is_from : (is_interleaved : Bool) → KeyOf is_interleaved → Bool
  is_from false κ = true
  is_from true κ = nat_le (base κ.ordered κ.stream) κ.number

  -- unordered DATA has no number
  abbrev pub up_chunk : (is_interleaved : Bool) → Chunk → Chunk
  up_chunk is_interleaved w = record w { number = cond (w.ordered || is_interleaved) (base w.ordered w.stream + w.number) w.number }

  abbrev pub up_some : (is_interleaved : Bool) → Option Chunk → Option Chunk
  up_some is_interleaved None = None
  up_some is_interleaved (Some w) = Some (up_chunk is_interleaved w)

  abbrev pub lift : (is_interleaved : Bool) → Queue (KeyOf is_interleaved) (next_of is_interleaved) → Queue (KeyOf is_interleaved) (next_of is_interleaved)
  lift is_interleaved q = record {
    chunks = λ κ. cond (is_from is_interleaved κ) (up_some is_interleaved (q.chunks (down_key is_interleaved κ))) None;
    next = λ s. base true s + q.next s;
    passed_below = λ s. base false s + q.passed_below s;
    ready = q.ready;
  }

-- the chunk that carries a fragment, with its number as it is on the wire
abbrev pub wire_chunk : (ℕ → Message) → Bool → Sender → ℕ → Chunk
wire_chunk message is_interleaved o t =
    chunk_with is_interleaved (message (place_of o t)) (o.written (place_of o t)) ((fragment o t).index) ((fragment o t).is_end) ((fragment o t).payload)

abbrev pub wire_key : (is_interleaved : Bool) → (ℕ → Message) → Sender → ℕ → KeyOf is_interleaved
wire_key false message o t = t
wire_key true message o t = record {
  ordered = ordered_of message (place_of o t);
  stream = stream_of message (place_of o t);
  number = o.written (place_of o t);
  index = (fragment o t).index;
}

-- a fragment of the epoch that the receiver is in
abbrev pub IsOfCurrentEpoch : (Bool → ℕ → ℕ) → (ℕ → Message) → Sender → ℕ → Type 0
IsOfCurrentEpoch base message o t = base (ordered_of message (place_of o t)) (stream_of message (place_of o t)) + o.written (place_of o t) ≡ o.number (place_of o t)

-- a forward point with its numbers as they are written
abbrev pub as_written : Entry → Entry
as_written e = record e { number = e.written }

abbrev pub wire_point : ForwardPoint → ForwardPoint
wire_point f = record f { entries = map as_written f.entries }

-- each entry is of the epoch that the receiver is in
abbrev pub AreEntriesOfCurrentEpoch : (Bool → ℕ → ℕ) → ForwardPoint → Type 0
AreEntriesOfCurrentEpoch base f = (e : Entry) → IsAmong e f.entries → base e.ordered e.stream + e.written ≡ e.number

-- after a reset of stream s its numbers count from what the sender counted
abbrev pub IsRebased : (base new : Bool → ℕ → ℕ) → Sender → ℕ → Type 0
IsRebased base new o s = (kind : Bool) (a : ℕ) → new kind a ≡ cond (a == s) (o.counts kind s) (base kind a)
