-- How small the payloads of the items are that wait to be sent again, by runs.
use Rattle.std.specs.Prelude.{◌≡◌, ℕ, ◌<◌, ◌≤◌, Bool, true, Option, Some, None, List, slice_get}
use Rattle.sctp_tx_outstanding.specs.Item.{Item, should_be_retransmitted, chunk_size}
use Rattle.sctp_tx_outstanding.specs.Waiting.{IsAtLeast}

abbrev pub IsLargeOf : (least : ℕ) → Option Item → Type 0
IsLargeOf least None = Unit {0}
IsLargeOf least (Some i) = IsAtLeast least i

-- if the item at the place waits, its payload has at least so many bytes
abbrev pub IsLargeAt : (least place : ℕ) → List Item → Type 0
IsLargeAt least k is = IsLargeOf least (slice_get is k)

-- of all items
abbrev pub AreAtLeast : (least : ℕ) → List Item → Type 0
AreAtLeast least is = (k : ℕ) → IsLargeAt least k is

-- if it waits, its chunk has more bytes than are allowed
abbrev pub Exceeds : (is_interleaved : Bool) (allowed : ℕ) → Item → Type 0
Exceeds m allowed i = should_be_retransmitted i ≡ true → allowed < chunk_size m i

abbrev pub ExceedsOf : (is_interleaved : Bool) (allowed : ℕ) → Option Item → Type 0
ExceedsOf m allowed None = Unit {0}
ExceedsOf m allowed (Some i) = Exceeds m allowed i

-- no item that waits, from one place up to another, has a chunk of so few bytes
abbrev pub NoneFits : (is_interleaved : Bool) (allowed from to : ℕ) → List Item → Type 0
NoneFits m allowed from to is = (k : ℕ) → from ≤ k → k < to → ExceedsOf m allowed (slice_get is k)
