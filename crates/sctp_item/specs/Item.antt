-- Items: the chunks of a packet (RFC 9260 section 3.2), and the parameters (3.2.1) and causes (3.3.10) inside a chunk.
-- A relation between bytes and items.
use Rattle.std.specs.Prelude.{◌≡◌, ℕ, ◌+◌, ◌-◌, ◌%◌, ◌<◌, ◌≤◌, ◌^◌, List, [], ◌∷◌, ◌++◌, length}
use Rattle.std.specs.Int.{w16, to_be_bytes}

-- an item: two bytes that say its kind, and its value
pub record Item : Type 0 where
  pub first : ℕ
  pub second : ℕ
  pub value : List ℕ

-- its bytes without padding: the kind, the length of all four fields, and the value
abbrev pub item_bytes : Item → List ℕ
item_bytes i = (i.first ∷ i.second ∷ []) ++ (to_be_bytes w16 (4 + length i.value) ++ i.value)

-- how many bytes bring n bytes to a multiple of 4
abbrev pub padding : ℕ → ℕ
padding n = (4 - n % 4) % 4

-- The bytes are the item, its padding of any bytes, and the rest. Only where nothing follows may padding be missing.
pub record Takes (bytes : List ℕ) (i : Item) (rest : List ℕ) : Type 0 where
  pub pad : List ℕ
  pub joined : bytes ≡ item_bytes i ++ (pad ++ rest)
  pub fits : 4 + length i.value < 2 ^ 16
  pub pad_fits : length pad ≤ padding (length i.value)
  pub only_last : length pad < padding (length i.value) → rest ≡ []

-- no item stands at the front of the bytes
abbrev pub TakesNone : List ℕ → Type 0
TakesNone bytes = (i : Item) (rest : List ℕ) → Takes bytes i rest → ⊥

-- The bytes begin with items that stand for these values in turn, and the rest follows. R says which value an item stands for.
abbrev pub ParsesAll : {X : Type 0} → (Item → X → Type 0) → List ℕ → List X → List ℕ → Type 0
ParsesAll R bytes [] rest = bytes ≡ rest
ParsesAll R bytes (x ∷ xs) rest = (i : Item) × (after : List ℕ) × Takes bytes i after × R i x × ParsesAll R after xs rest

-- The bytes are no values: behind the longest front that is some, bytes are left that begin with no item that stands for one.
pub record FailsToParse {X : Type 0} (R : Item → X → Type 0) (bytes : List ℕ) : Type 0 where
  pub front : List X
  pub rest : List ℕ
  pub parses : ParsesAll R bytes front rest
  pub some : 0 < length rest
  pub stuck : (i : Item) (after : List ℕ) (x : X) → Takes rest i after → R i x → ⊥
