-- An amount of bytes, and the amount at which its owner wants an event that it is low.
use Rattle.std.specs.Prelude.{ℕ, ◌+◌, ◌-◌, Bool, ◌&&◌, nat_lt, nat_le}

pub record Watched : Type 0 where
  pub amount : ℕ
  pub low_threshold : ℕ

abbrev pub watched : ℕ → Watched
watched low_threshold = record { amount = 0; low_threshold = low_threshold }

abbrev pub raise : ℕ → Watched → Watched
raise bytes w = record w { amount = w.amount + bytes }

abbrev pub lower : ℕ → Watched → Watched
lower bytes w = record w { amount = w.amount - bytes }

abbrev pub set_low_threshold : ℕ → Watched → Watched
set_low_threshold bytes w = record w { low_threshold = bytes }

-- what was above the threshold before is at most it now
abbrev pub crosses : Watched → Watched → Bool
crosses before after = nat_lt before.low_threshold before.amount && nat_le after.amount after.low_threshold
