-- Wire numbers as the sender writes them, and what keeps the receiver near enough to read them.
use Rattle.std.specs.Prelude.{◌≡◌, ℕ, ◌+◌, ◌^◌, ◌<◌, ◌≤◌, Bool, true, false, ◌⊎◌, Option, Some, None, List, [], ◌∷◌}
use Rattle.sctp_serial.specs.Messages as messages
use Rattle.sctp_serial.specs.Unwrapped.{origin, u32_space, halves, wire}
use Rattle.sctp_serial.specs.declared.types.StreamKey.TheVariants.{Ordered, Unordered}
use Rattle.sctp_packet.specs.Chunk.{FragmentTree}
use Rattle.sctp_chunk.specs.declared.forward_tsn.SkippedStream.{SkippedStream}
use Rattle.sctp_chunk.specs.declared.forward_tsn.SkippedStream.TheVariants.{ForwardTsn, IForwardTsn}
use Rattle.sctp_rx.specs.DataTracker.{Tracker}
use Rattle.sctp_rx.specs.ReassemblyQueue.{Reassembly, Deferred}
use Rattle.proof_protocol.specs.State.{Message, Entry, ForwardPoint, Sender, Transfer, IsAmong, place_of, count, ordered_of, stream_of}
use Rattle.proof_protocol.specs.Rules.{TransferEvent, covers, run}
use Rattle.proof_protocol.specs.Windows.{IsNear}
use Rattle.proof_refines.specs.View.{unordered_at}
use Rattle.proof_refines.specs.ReceiverRefinement.{Goes}

-- ---- on the wire. The peer's first TSN is `first`

-- an ordered message's number as DATA carries it (SSN) and as I-DATA does (MID). Unordered I-DATA has a MID too
pub record IsWritten (message : ℕ → Message) (is_interleaved : Bool) (o : Sender) (k : ℕ) (f : FragmentTree) : Type 0 where
  pub ssn : is_interleaved ≡ false → ordered_of message (place_of o k) ≡ true → f.ssn ≡ wire halves 0 (origin + o.written (place_of o k))
  pub mid : is_interleaved ≡ true → f.mid ≡ wire u32_space 0 (origin + o.written (place_of o k))

-- an entry of a forward point
abbrev pub IsEntry : Bool → SkippedStream → Entry → Type 0
IsEntry false (ForwardTsn id ssn) e = (e.ordered ≡ true) × (e.stream ≡ id.0) × (ssn.0 ≡ wire halves 0 (origin + e.written))
IsEntry false (IForwardTsn key mid) e = ⊥
IsEntry true (ForwardTsn id ssn) e = ⊥
IsEntry true (IForwardTsn (Ordered id) mid) e = (e.ordered ≡ true) × (e.stream ≡ id.0) × (mid.0 ≡ wire u32_space 0 (origin + e.written))
IsEntry true (IForwardTsn (Unordered id) mid) e = (e.ordered ≡ false) × (e.stream ≡ id.0) × (mid.0 ≡ wire u32_space 0 (origin + e.written))

-- one by one
abbrev pub AreEntries : Bool → List SkippedStream → List Entry → Type 0
AreEntries is_interleaved [] [] = Unit {0}
AreEntries is_interleaved [] (e ∷ es) = ⊥
AreEntries is_interleaved (x ∷ xs) [] = ⊥
AreEntries is_interleaved (x ∷ xs) (e ∷ es) = IsEntry is_interleaved x e × AreEntries is_interleaved xs es

-- no number is out of bounds
pub record AreFew (o : Sender) : Type 0 where
  pub fragments : count o < 2 ^ 62
  pub messages : o.accepted < 2 ^ 62

-- ---- premises: what the sender's windows say

-- no fragment is kept while 2^30 later ones are numbered
abbrev pub IsInWindow : Transfer → Type 0
IsInWindow x = x.acknowledged < count x.sender → count x.sender ≤ x.acknowledged + 2 ^ 30

-- the number of an ordered fragment is near its stream's next one
abbrev pub IsNearNext : (ℕ → Message) → Transfer → ℕ → Type 0
IsNearNext message x k = ordered_of message (place_of x.sender k) ≡ true
    → IsNear 32000 (x.receiver.next (stream_of message (place_of x.sender k))) (x.sender.number (place_of x.sender k))

-- and so are those that a forward point names
abbrev pub AreNearNext : Transfer → ForwardPoint → Type 0
AreNearNext x f = (e : Entry) → IsAmong e f.entries → e.ordered ≡ true → (e.number < x.receiver.next e.stream + 32000) × (x.receiver.next e.stream ≤ e.number + 32001)

-- ---- near

-- a queue that was given the TSN w of fragment `shift` first reads TSNs near the fragment `last`. When that came, all
-- fragments that were seen, and itself, were below `upto`, which was at most 2^30 further on
pub record IsNearLast (first shift : ℕ) (x : Transfer) (near w : ℕ) : Type 0 where
  pub written : w ≡ wire u32_space first (origin + shift)
  pub last : ℕ
  pub upto : ℕ
  pub near_is : near + shift ≡ origin + last
  pub from : shift ≤ last
  pub ahead : last < upto
  pub window : upto ≤ last + 2 ^ 30
  pub numbered : upto ≤ count x.sender
  pub seen : (t : ℕ) → x.receiver.seen t ≡ true → t < upto

-- the queue reads TSNs as they were meant. Before a first one came, there is nothing to read them by
abbrev pub IsNearQueue : (first shift : ℕ) → Transfer → Reassembly → Type 0
IsNearQueue first shift x r = (w : ℕ) → r.first ≡ Some w → IsNearLast first shift x r.near w

-- ---- unordered messages with I-DATA

-- fragment t is one of an unordered message on stream s
pub record IsOn (message : ℕ → Message) (o : Sender) (s t : ℕ) : Type 0 where
  pub numbered : t < count o
  pub unordered : ordered_of message (place_of o t) ≡ false
  pub stream : stream_of message (place_of o t) ≡ s

-- such a fragment of message n
pub record IsOf (message : ℕ → Message) (o : Sender) (s n t : ℕ) : Type 0 where
  pub on : IsOn message o s t
  pub number : o.number (place_of o t) ≡ n

-- the stream reads MIDs near message n, as it is on the wire: the first since the last reset, or one that was met. Each of which a
-- fragment was seen is less than 2^30 above it
pub record IsNearStream (message : ℕ → Message) (base : Bool → ℕ → ℕ) (s : ℕ) (x : Transfer) (near : ℕ) : Type 0 where
  pub number : ℕ
  pub near_is : near ≡ origin + number
  pub met : (number ≡ 0) ⊎ ((t : ℕ) × IsOf message x.sender s (base false s + number) t)
  pub seen : (t : ℕ) → x.receiver.seen t ≡ true → IsOn message x.sender s t → x.sender.number (place_of x.sender t) < base false s + number + 2 ^ 30

-- what a forward point says of unordered messages: it names those of which it passes a fragment that is not seen; and
-- where it names a number, then that of a fragment that it passes, and none of a greater number on this stream
pub record IsNamed (message : ℕ → Message) (x : Transfer) (f : ForwardPoint) : Type 0 where
  pub unseen : (s t : ℕ) → IsOn message x.sender s t → t < f.upto → (x.receiver.seen t ≡ true) ⊎ (covers f.entries false s (x.sender.number (place_of x.sender t)) ≡ true)
  pub last : (s n : ℕ) → covers f.entries false s n ≡ true → (t : ℕ) × IsOn message x.sender s t × (t < f.upto)
      × ((u : ℕ) → IsOn message x.sender s u → u < f.upto → x.sender.number (place_of x.sender u) ≤ x.sender.number (place_of x.sender t))
      × (n ≤ x.sender.number (place_of x.sender t)) × (covers f.entries false s (x.sender.number (place_of x.sender t)) ≡ true)

pub record AreNearStreams (message : ℕ → Message) (base : Bool → ℕ → ℕ) (x : Transfer) (r : Reassembly) : Type 0 where
  pub streams : (s : ℕ) → IsNearStream message base s x (unordered_at r.streams s).near
  pub points : (f : ForwardPoint) → IsAmong f x.forward_points → IsNamed message x f

-- what comes is read as it was meant: TSNs, and with I-DATA the MIDs of unordered messages. Numbers of ordered ones are
-- read near their stream's next number, which the rules know
pub record ReadsNear (message : ℕ → Message) (is_interleaved : Bool) (base : Bool → ℕ → ℕ) (first shift : ℕ) (x : Transfer) (r : Reassembly) : Type 0 where
  pub tsns : IsNearQueue first shift x r
  pub mids : is_interleaved ≡ true → AreNearStreams message base x r
  -- before a first TSN came, they would be read near that one
  pub start : r.first ≡ None → r.near ≡ origin

-- these events lead to these values, and what comes next is read as it was meant too
pub record GoesNear (message : ℕ → Message) (is_interleaved : Bool) (base : Bool → ℕ → ℕ) (first shift : ℕ) (x : Transfer) (es : List TransferEvent) (handed : List messages.Message) (waiting : Option Deferred) (t : Tracker) (r : Reassembly) : Type 0 where
  pub goes : Goes message is_interleaved base shift x es handed waiting t r
  pub near : ReadsNear message is_interleaved base first shift (run message is_interleaved x es) r
