-- The bytes of written items (RFC 9260 section 3.2).
use Rattle.std.specs.Prelude.{◌≡◌, ℕ, ◌+◌, ◌<◌, ◌^◌, ◌/◌, ◌%◌, ◌*◌, List, [], ◌∷◌, ◌++◌, length, replicate, Bool, nat_lt, ◌&&◌}
use Rattle.sctp_item.specs.Item.{Item, item_bytes, padding, Takes}

-- the length of an item fits its field
abbrev pub IsEncodable : Item → Type 0
IsEncodable i = 4 + length i.value < 2 ^ 16

-- the same as a test, of an item and of whether its parts agree with one another
abbrev pub is_encodable : Item → Bool → Bool
is_encodable i whole = nat_lt (4 + length i.value) (2 ^ 16) && whole

-- an item, and zeros up to a multiple of 4
unfoldable pub padded_item : Item → List ℕ
padded_item i = item_bytes i ++ replicate (padding (length i.value)) 0

-- Items inside an item: the padding of the last one isn't part of the value around it.
unfoldable pub inner_items : List Item → List ℕ
inner_items [] = []
inner_items (i ∷ []) = item_bytes i
inner_items (i ∷ j ∷ is) = padded_item i ++ inner_items (j ∷ is)

-- the item of a parameter or a cause: its two first bytes are one number, the type
abbrev pub item_of_type : ℕ → List ℕ → Item
item_of_type typ value = record { first = typ / 256; second = typ % 256; value = value }

-- the type of a parameter or a cause
abbrev pub type_of : Item → ℕ
type_of i = 256 * i.first + i.second

-- the bytes begin with a parameter or a cause of this type and this value
pub record TakesTyped (bytes : List ℕ) (typ : ℕ) (value rest : List ℕ) : Type 0 where
  pub item : Item
  pub taken : Takes bytes item rest
  pub typed : type_of item ≡ typ
  pub valued : item.value ≡ value
