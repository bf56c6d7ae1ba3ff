-- Elements appended to a vector: it fails only where its capacity is too small.
use Rattle.std.specs.Prelude.{◌≡◌, ℕ, ◌+◌, ◌<◌, ◌≤◌, Result, OnOk, OnErr, Vec, vec_len, vec_capacity}

-- so many elements more, or too little room for them; the capacity never shrinks
pub record Fills {X Z E : Type 0} (old new : Vec X Z) (n : ℕ) (result : Result (Unit {0}) E) : Type 0 where
  pub len : OnOk result (vec_len new ≡ vec_len old + n)
  pub capacity : vec_capacity old ≤ vec_capacity new
  pub full : OnErr result (vec_capacity old < vec_len old + n)
