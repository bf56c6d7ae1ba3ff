-- The items that wait to be sent again.
use Rattle.std.specs.Prelude.{◌≡◌, ℕ, ◌<◌, ◌≤◌, Bool, true, false, if◌then◌else◌, Option, Some, None, List, slice_get, length}
use Rattle.sctp_tx_outstanding.specs.Item.{Item, is_fast, should_be_retransmitted}

-- for the fast packet, or for any
abbrev pub waits_for : (fast : Bool) → Item → Bool
waits_for fast i = if fast then is_fast i else should_be_retransmitted i

abbrev pub waits_of : (fast : Bool) → Option Item → Bool
waits_of fast None = false
waits_of fast (Some i) = waits_for fast i

-- whether the item at the place waits
abbrev pub waits_at : (fast : Bool) (place : ℕ) → List Item → Bool
waits_at fast k is = waits_of fast (slice_get is k)

-- none from one place up to another does
abbrev pub NoneWaits : (fast : Bool) (from to : ℕ) → List Item → Type 0
NoneWaits fast from to is = (k : ℕ) → from ≤ k → k < to → waits_at fast k is ≡ false

-- if it waits, its payload has at least so many bytes
abbrev pub IsAtLeast : ℕ → Item → Type 0
IsAtLeast least i = should_be_retransmitted i ≡ true → least ≤ length i.fragment.payload
