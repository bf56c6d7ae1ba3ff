-- The moments at which items expire, so that those that don't aren't looked at as some do.
use Rattle.std.specs.Prelude.{◌≡◌, ◌⊎◌, ℕ, zero, suc, ◌+◌, ◌-◌, ◌%◌, ◌^◌, ◌<◌, ◌≤◌, ◌==◌, ◌&&◌, ◌||◌, nat_lt, Bool, true, false, List, [], ◌∷◌}
use Rattle.sctp_tx_outstanding.specs.declared.expiries.Expiries.{Expiries}
use Rattle.sctp_tx_outstanding.specs.declared.expiries.Due.{Due}
use Rattle.sctp_tx_outstanding.specs.Item.{Item, expiry, has_nack, never, or_never}
use Rattle.sctp_tx_outstanding.specs.Losses.{expires}
use Rattle.sctp_tx_outstanding.specs.Messages.{pair_key}
use Rattle.sctp_tx_outstanding.specs.Numbers.{is_listed}

-- whether the item at the place expires at the moment, and not before
abbrev pub expires_as : (moment k : ℕ) → List Item → Bool
expires_as moment k [] = false
expires_as moment zero (i ∷ is) = expiry i == moment
expires_as moment (suc k) (i ∷ is) = expires_as moment k is

-- it has this deadline, which lies behind the moment up to which keys were dropped, or it is missing or lost
abbrev pub is_expected : (dropped moment : ℕ) → Item → Bool
is_expected dropped moment i = (or_never i.expires == moment) && (has_nack i.state || nat_lt dropped moment)

abbrev pub expected_at : (dropped moment k : ℕ) → List Item → Bool
expected_at dropped moment k [] = false
expected_at dropped moment zero (i ∷ is) = is_expected dropped moment i
expected_at dropped moment (suc k) (i ∷ is) = expected_at dropped moment k is

-- each such item has its key among these. The first item's number is `first`
pub record AreMoments (keys : List ℕ) (first dropped : ℕ) (is : List Item) : Type 0 where
  pub fits : (moment k : ℕ) → moment < never → expected_at dropped moment k is ≡ true → first + k < 2 ^ 32
  pub listed : (moment k : ℕ) → moment < never → expected_at dropped moment k is ≡ true → is_listed keys (pair_key moment (first + k)) ≡ true

abbrev pub Expects : Expiries → List Item → Type 0
Expects x is = x.is_known ≡ true → AreMoments x.keys.keys x.first x.dropped is

-- ---- an item comes or changes

-- no other key than that of the place and the moment has to come
abbrev pub Gains : (place moment : ℕ) → (is js : List Item) → Type 0
Gains place moment is js = (dropped m k : ℕ) → m < never → expected_at dropped m k js ≡ true → (expected_at dropped m k is ≡ true) ⊎ ((k ≡ place) × (m ≡ moment))

-- the item at the place expired at one moment, and does at another. Its deadline stays
pub record Moves (place was will : ℕ) (is js : List Item) : Type 0 where
  pub gains : Gains place will is js
  pub stands : (dropped : ℕ) → will < never → (was ≡ will) ⊎ (dropped < will) → expected_at dropped will place is ≡ true

-- ---- what expires now

-- whether the item at the place does
abbrev pub expires_at : (now k : ℕ) → List Item → Bool
expires_at now k [] = false
expires_at now zero (i ∷ is) = expires now i
expires_at now (suc k) (i ∷ is) = expires_at now k is

-- none from one place up to another does
abbrev pub NoneExpires : (now from to : ℕ) → List Item → Type 0
NoneExpires now from to is = (k : ℕ) → from ≤ k → k < to → expires_at now k is ≡ false

-- the places of the keys below the end are listed
abbrev pub ListsUpTo : (end first : ℕ) → (keys places : List ℕ) → Type 0
ListsUpTo end first keys places = (key : ℕ) → key < end → is_listed keys key ≡ true → is_listed places (key % 2 ^ 32 - first) ≡ true

-- each item that does is listed by its place
abbrev pub FindsDue : Due → ℕ → List Item → Type 0
FindsDue d now is = d.is_known ≡ true → (k : ℕ) → expires_at now k is ≡ true → is_listed d.places.keys k ≡ true
