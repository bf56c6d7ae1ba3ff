-- The values of the code as the rules see a receiver. The tracker counts fragment t of the rules as `origin + t`. Number n
-- of a message is `origin + n`. The queue counts TSNs from the first that came, whichever that was: where that was fragment
-- `shift`, it has fragment t as `origin + t - shift`.
use Rattle.std.specs.Prelude.{◌≡◌, ℕ, ◌+◌, ◌-◌, ◌^◌, ◌<◌, ◌≤◌, not, Bool, true, false, Some, List, ◌++◌, map}
use Rattle.sctp_serial.specs.Messages.{Message}
use Rattle.sctp_serial.specs.Unwrapped.{origin}
use Rattle.sctp_rx.specs.DataTracker.{Tracker, has_seen}
use Rattle.sctp_rx.specs.Held.{Held}
use Rattle.sctp_rx.specs.Delivery.{OrderedStream, UnorderedStream, fresh_ordered, fresh_unordered}
use Rattle.sctp_rx.specs.ReassemblyStreams.{Streams, stream_at}
use Rattle.sctp_rx.specs.ReassemblyQueue.{Reassembly}
use Rattle.proof_protocol.specs.State.{ReadyMessage, IsAmong}
use Rattle.proof_protocol.specs.Reassembly.{Chunk, Queue, KeyOf, next_of}

-- whether fragment n was seen
abbrev pub was_seen : Tracker → ℕ → Bool
was_seen t n = has_seen t (origin + n)

abbrev pub ordered_at : Streams → ℕ → OrderedStream
ordered_at ss s = stream_at fresh_ordered s ss.ordered

abbrev pub unordered_at : Streams → ℕ → UnorderedStream
unordered_at ss s = stream_at fresh_unordered s ss.unordered

-- what is held of a stream and kind (ordered or not)
abbrev pub held_on : Streams → Bool → ℕ → List Held
held_on ss true s = (ordered_at ss s).held
held_on ss false s = (unordered_at ss s).held

-- all that the rules see of a queue. Near what the next numbers are read is no matter of theirs
pub record View : Type 0 where
  pub held : Bool → ℕ → List Held
  pub next : ℕ → ℕ
  pub passed : ℕ → ℕ
  pub ready : List Message  -- all that ever became ready

abbrev pub view_with : Streams → List Message → View
view_with ss ready = record { held = held_on ss; next = λ s. (ordered_at ss s).next; passed = λ s. (unordered_at ss s).passed; ready = ready }

-- where these messages were handed out before
abbrev pub view_of : List Message → Reassembly → View
view_of handed r = view_with r.streams (handed ++ r.ready)

-- ---- a fragment that is held is a chunk under a key

-- the chunk with this protocol id. A beginning alone has its message's: I-DATA has none in what follows
abbrev pub chunk_of_held : ℕ → Held → Chunk
chunk_of_held id h = record {
  ordered = not h.fragment.is_unordered;
  stream = h.fragment.stream_id;
  number = h.number - origin;
  is_beginning = h.fragment.is_beginning;
  is_end = h.fragment.is_end;
  protocol_id = id;
  payload = h.fragment.payload;
}

abbrev pub key_of_held : (is_interleaved : Bool) → (shift : ℕ) → Held → KeyOf is_interleaved
key_of_held false shift h = h.index + shift - origin
key_of_held true shift h = record { ordered = not h.fragment.is_unordered; stream = h.fragment.stream_id; number = h.number - origin; index = h.index }

-- it lies where it belongs
pub record IsFiled (is_interleaved : Bool) (shift : ℕ) (kind : Bool) (s : ℕ) (h : Held) : Type 0 where
  pub kind_is : h.fragment.is_unordered ≡ not kind
  pub stream_is : h.fragment.stream_id ≡ s
  pub number_from : origin ≤ h.number
  pub index_from : is_interleaved ≡ false → origin ≤ h.index + shift
  pub index_below : h.index < 2 ^ 63

abbrev pub ready_of : Message → ReadyMessage
ready_of m = record { stream = m.stream; protocol_id = m.ppid; payload = m.payload }

-- the view is this queue of the rules: a map from keys to chunks, the next numbers, and what became ready
pub record IsSeenAs (is_interleaved : Bool) (shift : ℕ) (v : View) (q : Queue (KeyOf is_interleaved) (next_of is_interleaved)) : Type 0 where
  pub filed : (kind : Bool) (s : ℕ) (h : Held) → IsAmong h (v.held kind s) → IsFiled is_interleaved shift kind s h
  pub holds : (kind : Bool) (s : ℕ) (h : Held) → IsAmong h (v.held kind s)
      → (id : ℕ) × (q.chunks (key_of_held is_interleaved shift h) ≡ Some (chunk_of_held id h)) × (h.fragment.is_beginning ≡ true → id ≡ h.fragment.ppid)
  pub found : (κ : KeyOf is_interleaved) (w : Chunk) → q.chunks κ ≡ Some w
      → (kind : Bool) × (s : ℕ) × (h : Held) × IsAmong h (v.held kind s) × (key_of_held is_interleaved shift h ≡ κ) × ((id : ℕ) × (chunk_of_held id h ≡ w))
  pub next : (s : ℕ) → v.next s ≡ origin + q.next s
  pub passed : is_interleaved ≡ true → (s : ℕ) → q.passed_below s ≡ v.passed s - origin
  pub none_passed : is_interleaved ≡ false → (s : ℕ) → v.passed s ≤ origin
  pub ready : q.ready ≡ map ready_of v.ready
