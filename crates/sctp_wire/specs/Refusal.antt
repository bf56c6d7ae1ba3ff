-- Why a list of items is refused: by the first item from the left that cannot be read.
use Rattle.std.specs.Prelude.{◌≡◌, ◌⊎◌, ℕ, ◌<◌, List, length}
use Rattle.sctp_item.specs.Item.{Item, Takes, TakesNone, ParsesAll}
use Rattle.sctp_wire.specs.declared.error.ChunkParseError.{ChunkParseError}
use Rattle.sctp_wire.specs.declared.error.ChunkParseError.TheVariants.{InvalidLength}

-- the item stands for some value
abbrev pub StandsForSome : {X : Type 0} → (Item → X → Type 0) → Item → Type 0
StandsForSome {X} R i = (x : X) × R i x

-- no item stands at the front of the bytes, or one that is refused so
abbrev pub IsStuck : (Item → ChunkParseError → Type 0) → List ℕ → ChunkParseError → Type 0
IsStuck Refuses bytes fault = ((fault ≡ InvalidLength) × TakesNone bytes)
    ⊎ ((i : Item) × (after : List ℕ) × Takes bytes i after × Refuses i fault)

-- Behind a front of items that stand for values bytes are left, and they are stuck with this fault.
pub record FailsToParseAs {X : Type 0} (R : Item → X → Type 0) (Refuses : Item → ChunkParseError → Type 0) (bytes : List ℕ) (fault : ChunkParseError) : Type 0 where
  pub front : List X
  pub rest : List ℕ
  pub parses : ParsesAll R bytes front rest
  pub some : 0 < length rest
  pub stuck : IsStuck Refuses rest fault
