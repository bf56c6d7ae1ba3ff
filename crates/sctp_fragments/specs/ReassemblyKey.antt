-- Keys of fragments. A key's rank is its place among all keys.
use Rattle.std.specs.Prelude.{ℕ, ◌+◌, ◌*◌, ◌<◌, ◌^◌, ◌==◌, ◌-◌, cond}

-- no key lies strictly between
abbrev pub NoneBetween : {K : Type 0} → (K → Type 0) → (K → ℕ) → K → K → Type 0
NoneBetween {K} is_key rank x y = (z : K) → is_key z → rank x < rank z → rank z < rank y → ⊥

-- a message's number and a place in the message, of 64 bits each
abbrev pub IsPair : ℕ → ℕ → Type 0
IsPair number index = (number < 2 ^ 64) × (index < 2 ^ 64)

abbrev pub pair_rank : ℕ → ℕ → ℕ
pair_rank number index = number * 2 ^ 64 + index

-- a key's rank, by its number and its index
abbrev pub rank_at : {K : Type 0} (number index : K → ℕ) → K → ℕ
rank_at number index k = pair_rank (number k) (index k)

-- the greatest rank
abbrev pub pair_bound : ℕ
pair_bound = 2 ^ 128 - 1

-- the pair that comes next
abbrev pub pair_after_number : ℕ → ℕ → ℕ
pair_after_number number index = cond (index == 2 ^ 64 - 1) (number + 1) number

abbrev pub pair_after_index : ℕ → ℕ
pair_after_index index = cond (index == 2 ^ 64 - 1) 0 (index + 1)
