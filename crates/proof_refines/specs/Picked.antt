-- What a packet takes of the items that wait to be sent again (RFC 9260 sections 6.3.3, 7.2.4).
use Rattle.std.specs.Prelude.{◌≡◌, ℕ, suc, ◌+◌, ◌-◌, ◌==◌, ◌≤◌, ◌<◌, min, Bool, true, false, if◌then◌else◌, List, [], ◌∷◌}
use Rattle.sctp_chunk.specs.Chunk.{FragmentTree}
use Rattle.sctp_tx_outstanding.specs.Item.{Item, is_fast, should_be_retransmitted, chunk_size}
use Rattle.sctp_tx_outstanding.specs.OutstandingData.{Outstanding, wire_tsn, flight_items}
use Rattle.sctp_tx_outstanding.specs.Resending.{resend}

-- it waits for this packet: for the one that ignores the congestion window, or for any
abbrev pub is_due : (fast : Bool) → Item → Bool
is_due fast i = if fast then is_fast i else should_be_retransmitted i

-- the bytes that may still be sent. While something is in flight the peer's window counts, but not for the fast packet
abbrev pub bytes_allowed : (fast is_quiet : Bool) → (room window : ℕ) → ℕ
bytes_allowed fast is_quiet room window = if fast then room else (if is_quiet then room else min room window)

module _ (fast is_interleaved : Bool) (tsn : ℕ → ℕ) where
  -- The items from a place on, in ascending order of their TSNs, and the chunks that the packet takes: an item that is due goes where
  -- it fits, and is passed over only where it doesn't.
  pub data Picks : (is_quiet : Bool) → (room window place : ℕ) → List Item → List (ℕ × FragmentTree) → Type 0 where
    no_more : {q : Bool} {room window k : ℕ} → Picks q room window k [] []
    goes : {q : Bool} {room window k : ℕ} {is : List Item} {cs : List (ℕ × FragmentTree)} (i : Item) → is_due fast i ≡ true → chunk_size is_interleaved i ≤ bytes_allowed fast q room window
        → Picks false (room - chunk_size is_interleaved i) (window - chunk_size is_interleaved i) (suc k) is cs → Picks q room window k (i ∷ is) ((tsn k, i.fragment) ∷ cs)
    has_no_room : {q : Bool} {room window k : ℕ} {is : List Item} {cs : List (ℕ × FragmentTree)} (i : Item) → is_due fast i ≡ true → bytes_allowed fast q room window < chunk_size is_interleaved i
        → Picks q room window (suc k) is cs → Picks q room window k (i ∷ is) cs
    is_not_due : {q : Bool} {room window k : ℕ} {is : List Item} {cs : List (ℕ × FragmentTree)} (i : Item) → is_due fast i ≡ false → Picks q room window (suc k) is cs
        → Picks q room window k (i ∷ is) cs

-- the TSN of the item at this place, as it is written
abbrev pub tsn_at : Outstanding → ℕ → ℕ
tsn_at d place = wire_tsn d (d.items.acked + 1 + place)

-- the law
abbrev pub ResendingPassesNothingOver : Type 0
ResendingPassesNothingOver = (fast : Bool) (room window : ℕ) (d : Outstanding)
    → Picks fast d.items.is_interleaved (tsn_at d) (flight_items d.items == 0) room window 0 d.items.kept (resend fast room window d).chunks
