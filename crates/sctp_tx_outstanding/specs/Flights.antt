-- Whether items are outstanding, so that those that aren't needn't be looked at.
use Rattle.std.specs.Prelude.{◌≡◌, ℕ, ◌<◌, ◌≤◌, Bool, false, Option, Some, None, List, slice_get}
use Rattle.sctp_tx_outstanding.specs.Item.{Item, is_outstanding}

abbrev pub flies_of : Option Item → Bool
flies_of None = false
flies_of (Some i) = is_outstanding i

-- whether the item at the place is in flight or missing
abbrev pub flies_at : ℕ → List Item → Bool
flies_at k is = flies_of (slice_get is k)

-- none from one place up to another is
abbrev pub NoneFlies : (from to : ℕ) → List Item → Type 0
NoneFlies from to is = (k : ℕ) → from ≤ k → k < to → flies_at k is ≡ false
