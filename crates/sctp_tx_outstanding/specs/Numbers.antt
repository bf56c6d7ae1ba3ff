-- Numbers of items, of which the first item's is `first`.
use Rattle.std.specs.Prelude.{ℕ, ◌-◌, ◌&&◌, nat_le, Bool, List}
use Rattle.std.specs.List.{list_any}
use Rattle.std.specs.Ordering.{nat_cmp}
use Rattle.std.specs.BTreeMap.{is_at}

-- what holds at places, by number
abbrev pub by_number : (first : ℕ) → (ℕ → Bool) → (n : ℕ) → Bool
by_number first holds n = nat_le first n && holds (n - first)

abbrev pub is_listed : List ℕ → ℕ → Bool
is_listed numbers n = list_any (is_at (nat_cmp n)) numbers
