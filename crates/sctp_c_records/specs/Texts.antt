-- A text as C has it.
use Rattle.std.specs.Prelude.{◌≡◌, ◌<◌, ◌-◌, ℕ, List, length, slice_index}

-- its last byte is zero
pub record IsEnded (text : List ℕ) : Type 0 where
  pub some : 0 < length text
  pub zero : slice_index text (length text - 1) ≡ 0
