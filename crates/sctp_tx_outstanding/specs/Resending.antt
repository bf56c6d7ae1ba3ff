-- Items that are sent again (RFC 9260 sections 7.2.4 and 6.3.3).
use Rattle.std.specs.Prelude.{◌≡◌, ℕ, zero, suc, ◌+◌, ◌-◌, ◌<◌, ◌≤◌, ◌==◌, ◌&&◌, nat_le, min, Bool, true, if◌then◌else◌, Option, Some, None, List, [], ◌∷◌, ◌++◌, length, slice_get}
use Rattle.std.specs.List.{sum_by, All}
use Rattle.sctp_chunk.specs.Chunk.{FragmentTree}
use Rattle.sctp_tx_outstanding.specs.declared.outstanding_data.Turn.{Turn}
use Rattle.sctp_tx_outstanding.specs.declared.outstanding_data.Turn.TheVariants.{Send, PassOver, Leave}
use Rattle.sctp_tx_outstanding.specs.Item.{Item, is_fast, should_be_retransmitted, size_of, chunk_size, mark_as_retransmitted, miss_fast}
use Rattle.sctp_tx_outstanding.specs.OutstandingData.{Items, Outstanding, wire_tsn, flight_items, waiting_items, fast_items}
use Rattle.sctp_tx_outstanding.specs.Losses.{change_items}

-- a packet that is being filled: fragments with their TSNs as they are written, the bytes that are left for chunks, and
-- those of the peer's window
pub record Resent : Type 0 where
  pub outstanding : Outstanding
  pub chunks : List (ℕ × FragmentTree)
  pub room : ℕ
  pub window : ℕ

abbrev pub size_in : Resent → Item → ℕ
size_in x i = chunk_size x.outstanding.items.is_interleaved i

-- the item at place k is handed out to be sent once more
abbrev pub again : ℕ → Item → Resent → Resent
again k i x = record {
  outstanding = record x.outstanding { items = change_items k mark_as_retransmitted x.outstanding.items };
  chunks = x.chunks ++ (wire_tsn x.outstanding (x.outstanding.items.acked + 1 + k), i.fragment) ∷ [];
  room = x.room - size_in x i;
  window = x.window - size_in x i;
}

abbrev pub again_of : ℕ → Option Item → Resent → Resent
again_of k None x = x
again_of k (Some i) x = again k i x

abbrev pub again_at : ℕ → Resent → Resent
again_at k x = again_of k (slice_get x.outstanding.items.kept k) x

-- it has no room in the fast packet, and waits for another one
abbrev pub passed_over : ℕ → Resent → Resent
passed_over k x = record x { outstanding = record x.outstanding { items = change_items k miss_fast x.outstanding.items } }

-- while something is in flight the peer's window counts too
abbrev pub allowance : Resent → ℕ
allowance x = if flight_items x.outstanding.items == 0 then x.room else min x.room x.window

-- no item that waits may be sent now
abbrev pub IsFull : Resent → Type 0
IsFull x = All (λ i. should_be_retransmitted i ≡ true → allowance x < size_in x i) x.outstanding.items.kept

-- how many wait for the fast packet, or for any
abbrev pub waiting_for : (fast : Bool) → Items → ℕ
waiting_for fast s = if fast then fast_items s else waiting_items s

-- what becomes of the item: what doesn't fit is passed over, and a smaller one behind it goes
abbrev pub fast_turn : Item → Resent → Turn
fast_turn i x = if is_fast i then (if nat_le (size_in x i) x.room then Send else PassOver) else Leave

abbrev pub queued_turn : Item → Resent → Turn
queued_turn i x = if should_be_retransmitted i && nat_le (size_in x i) (allowance x) then Send else Leave

abbrev pub turn_of : (fast : Bool) → Option Item → Resent → Turn
turn_of fast None x = Leave
turn_of fast (Some i) x = if fast then fast_turn i x else queued_turn i x

abbrev pub turn_at : (fast : Bool) → ℕ → Resent → Turn
turn_at fast k x = turn_of fast (slice_get x.outstanding.items.kept k) x

-- each item from one place up to another is left as it is
abbrev pub AreLeft : (fast : Bool) (from to : ℕ) → Resent → Type 0
AreLeft fast from to x = (k : ℕ) → from ≤ k → k < to → turn_at fast k x ≡ Leave

abbrev pub apply_turn : Turn → ℕ → Resent → Resent
apply_turn Send k x = again_at k x
apply_turn PassOver k x = passed_over k x
apply_turn Leave k x = x

abbrev pub step_at : (fast : Bool) → ℕ → Resent → Resent
step_at fast k x = apply_turn (turn_at fast k x) k x

-- the items at the places below n, in ascending order
abbrev pub resent_below : (fast : Bool) → ℕ → Resent → Resent
resent_below fast zero x = x
resent_below fast (suc n) x = step_at fast n (resent_below fast n x)

abbrev pub empty_packet : (room window : ℕ) → Outstanding → Resent
empty_packet room window d = record { outstanding = d; chunks = []; room = room; window = window }

abbrev pub resend : (fast : Bool) → (room window : ℕ) → Outstanding → Resent
resend fast room window d = resent_below fast (length d.items.kept) (empty_packet room window d)

-- the bytes of chunks, with headers and padding
abbrev pub chunk_bytes : (is_interleaved : Bool) → List (ℕ × FragmentTree) → ℕ
chunk_bytes m chunks = sum_by (λ c. size_of m c.1) chunks

-- some of the items were handed out, and the others not
abbrev pub SomeResent : (fast : Bool) → Resent → Outstanding → Type 0
SomeResent fast x after = (count : ℕ) × (after ≡ (resent_below fast count x).outstanding)
