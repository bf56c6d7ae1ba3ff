-- What comes from the sender of the rules, and is read as it was meant.
use Rattle.std.specs.Prelude.{◌≡◌, ℕ, ◌+◌, ◌^◌, ◌<◌, ◌==◌, ◌&&◌, ◌||◌, nat_lt, not, Bool, true, false, Option, Some, None, List, [], ◌∷◌}
use Rattle.sctp_serial.specs.Unwrapped.{origin, u32_space, halves, nearest}
use Rattle.sctp_serial.specs.declared.types.StreamKey.TheVariants.{Ordered, Unordered}
use Rattle.sctp_packet.specs.Chunk.{FragmentTree}
use Rattle.sctp_chunk.specs.declared.forward_tsn.SkippedStream.{SkippedStream}
use Rattle.sctp_chunk.specs.declared.forward_tsn.SkippedStream.TheVariants.{ForwardTsn, IForwardTsn}
use Rattle.sctp_rx.specs.ReassemblyStreams.{Streams, ordered_number, unordered_number}
use Rattle.sctp_rx.specs.ReassemblyQueue.{Reassembly, number_of}
use Rattle.proof_protocol.specs.State.{Message, Entry, Sender, Receiver, fragment, place_of, count, ordered_of, stream_of}
use Rattle.proof_protocol.specs.Rules.{floor}
use Rattle.proof_protocol.specs.Lifted.{wire_chunk}
use Rattle.proof_refines.specs.View.{ordered_at, unordered_at}

-- ---- a fragment

-- the chunk carries fragment k of the sender
pub record Carries (message : ℕ → Message) (is_interleaved : Bool) (o : Sender) (k : ℕ) (f : FragmentTree) : Type 0 where
  pub numbered : k < count o
  pub real : (fragment o k).placeholder ≡ false
  pub kind : f.is_unordered ≡ not (ordered_of message (place_of o k))
  pub stream : f.stream_id ≡ stream_of message (place_of o k)
  pub protocol_id : f.is_beginning ≡ true → f.ppid ≡ (wire_chunk message is_interleaved o k).protocol_id
  pub payload : f.payload ≡ (fragment o k).payload
  pub begins : f.is_beginning ≡ ((fragment o k).index == 0)
  pub ends : f.is_end ≡ (fragment o k).is_end
  pub fsn : is_interleaved ≡ true → f.is_beginning ≡ false → f.fsn ≡ (fragment o k).index

-- the number of its message as the queue reads it
abbrev pub number_read : Bool → FragmentTree → Streams → ℕ
number_read true f ss = unordered_number ss.is_interleaved f (unordered_at ss f.stream_id)
number_read false f ss = ordered_number ss.is_interleaved f (ordered_at ss f.stream_id)

-- the fragment that the queue counts as `origin`: the first that comes
abbrev pub shift_after : Option ℕ → (shift k : ℕ) → ℕ
shift_after None shift k = k
shift_after (Some first) shift k = shift

-- the queue reads its numbers as they were meant, and none is out of bounds
pub record IsRead (message : ℕ → Message) (is_interleaved : Bool) (shift : ℕ) (o : Sender) (r : Reassembly) (k tsn : ℕ) (f : FragmentTree) : Type 0 where
  pub tsn_is : number_of r tsn + shift ≡ origin + k
  pub tsn_below : k < 2 ^ 62
  pub number_is : number_read f.is_unordered f r.streams ≡ origin + (wire_chunk message is_interleaved o k).number
  pub number_below : (wire_chunk message is_interleaved o k).number < 2 ^ 62
  pub index_below : (fragment o k).index < 2 ^ 62

-- whether the fragment's message can't become ready any more, as the receiver knows it: its number is below its
-- stream's next one, or, unordered, one that a forward point passed. Unordered DATA has no number
abbrev pub is_behind : (ℕ → Message) → Bool → Sender → Receiver → ℕ → Bool
is_behind message is_interleaved o i k =
    (ordered_of message (place_of o k) || is_interleaved)
    && nat_lt (o.number (place_of o k)) (floor i (ordered_of message (place_of o k)) (stream_of message (place_of o k)))

-- ---- a forward point

-- an entry as it came stands for the entry of the rules: of its kind and stream, with a number that is read as it was meant
abbrev pub StandsFor : Bool → Streams → SkippedStream → Entry → Type 0
StandsFor false ss (ForwardTsn id ssn) e =
    (e.ordered ≡ true) × (e.stream ≡ id.0) × (nearest halves 0 (ordered_at ss id.0).next ssn.0 ≡ origin + e.number) × (e.number < 2 ^ 62)
StandsFor false ss (IForwardTsn key mid) e = ⊥
StandsFor true ss (ForwardTsn id ssn) e = ⊥
StandsFor true ss (IForwardTsn (Ordered id) mid) e =
    (e.ordered ≡ true) × (e.stream ≡ id.0) × (nearest u32_space 0 (ordered_at ss id.0).next mid.0 ≡ origin + e.number) × (e.number < 2 ^ 62)
StandsFor true ss (IForwardTsn (Unordered id) mid) e =
    (e.ordered ≡ false) × (e.stream ≡ id.0) × (nearest u32_space 0 (unordered_at ss id.0).near mid.0 ≡ origin + e.number) × (e.number < 2 ^ 62)

-- one by one
abbrev pub StandForAll : Bool → Streams → List SkippedStream → List Entry → Type 0
StandForAll is_interleaved ss [] [] = Unit {0}
StandForAll is_interleaved ss [] (e ∷ es) = ⊥
StandForAll is_interleaved ss (x ∷ xs) [] = ⊥
StandForAll is_interleaved ss (x ∷ xs) (e ∷ es) = StandsFor is_interleaved ss x e × StandForAll is_interleaved ss xs es
