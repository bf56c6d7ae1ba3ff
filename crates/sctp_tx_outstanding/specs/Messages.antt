-- The items of each message, by their numbers, so that those of other messages aren't looked at as one is given up.
use Rattle.std.specs.Prelude.{◌≡◌, ◌⊎◌, ℕ, zero, suc, ◌+◌, ◌*◌, ◌^◌, ◌<◌, ◌≤◌, ◌&&◌, Bool, true, false, List, [], ◌∷◌, ◌++◌, length, slice_index_or}
use Rattle.std.specs.List.Sorted.{IsNonDecreasing}
use Rattle.sctp_tx_outstanding.specs.declared.messages.Messages.{Messages}
use Rattle.sctp_tx_outstanding.specs.Item.{Item, is_of}
use Rattle.sctp_tx_outstanding.specs.OutstandingData.{is_of_at}
use Rattle.sctp_tx_outstanding.specs.Numbers.{by_number, is_listed}

-- none from one place up to another is of the message
abbrev pub NoneIsOf : (message from to : ℕ) → List Item → Type 0
NoneIsOf message from to is = (k : ℕ) → from ≤ k → k < to → is_of_at message k is ≡ false

-- whether the item at the place is one of the message, and its end
abbrev pub is_end_at : (message k : ℕ) → List Item → Bool
is_end_at message k [] = false
is_end_at message zero (i ∷ is) = is_of message i && i.fragment.is_end
is_end_at message (suc k) (i ∷ is) = is_end_at message k is

-- no other is
pub record IsWhole (message place : ℕ) (is : List Item) : Type 0 where
  pub before : NoneIsOf message 0 place is
  pub behind : NoneIsOf message (place + 1) (length is) is
  pub ends : is_end_at message place is ≡ true

-- whether the item of number n is of the message. The first item's number is `first`
abbrev pub is_of_as : (first message n : ℕ) → List Item → Bool
is_of_as first message n is = by_number first (λ k. is_of_at message k is) n

-- a message and the number of one of its items, in one
abbrev pub pair_key : (message n : ℕ) → ℕ
pair_key message n = message * 2 ^ 32 + n

-- from the first item's number on the keys are those of the items, and no other
pub record AreKeys (keys : List ℕ) (first : ℕ) (is : List Item) : Type 0 where
  pub fits : first + length is ≤ 2 ^ 32
  pub same : (message n : ℕ) → first ≤ n → n < 2 ^ 32 → is_listed keys (pair_key message n) ≡ is_of_as first message n is

-- both lists of keys together are
abbrev pub Lists : Messages → List Item → Type 0
Lists m is = m.is_known ≡ true → AreKeys (m.sorted.items ++ m.added.keys) m.first is

-- and the sorted ones ascend, so that they can be searched
pub record Finds (m : Messages) (is : List Item) : Type 0 where
  pub lists : Lists m is
  pub ascends : IsNonDecreasing m.sorted.items

-- where keys ascend: those before the place are below this one, or the same as the one there, and this one isn't above that
pub record IsFirstFrom (from place : ℕ) (keys : List ℕ) : Type 0 where
  pub before : (k : ℕ) → k < place → (slice_index_or keys k 0 < from) ⊎ ((place < length keys) × (slice_index_or keys k 0 ≡ slice_index_or keys place 0))
  pub there : place < length keys → from ≤ slice_index_or keys place 0
