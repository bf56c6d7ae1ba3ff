-- Serial numbers unwrapped: natural numbers that never wrap. The first number of a kind is `origin`, so that those just
-- below the first have a value too. Where the first is written `first`, a number is written as that many steps further
-- on. Each space divides `origin`: numbers that start at 0 on the wire have `first` 0.
use Rattle.std.specs.Prelude.{◌≡◌, ℕ, ◌+◌, ◌-◌, ◌/◌, ◌^◌, ◌≤◌, nat_lt, if◌then◌else◌}
use Rattle.sctp_serial.specs.SerialNumber.{serial_sum, serial_difference}

-- the unwrapped value of a first number
abbrev pub origin : ℕ
origin = 2 ^ 32

-- the spaces of TSN, MID, FSN and request numbers, and of SSN
abbrev pub u32_space : ℕ
u32_space = 2 ^ 32

abbrev pub halves : ℕ
halves = 2 ^ 16

-- how n is written
abbrev pub wire : ℕ → ℕ → ℕ → ℕ
wire space first n = serial_sum space first n

-- n or n less the space: what is `ahead` steps on from `near`, on the nearer side, and at half the space the lower one
abbrev pub stepped : ℕ → ℕ → ℕ → ℕ
stepped space near ahead = if nat_lt ahead (space / 2) then near + ahead else near + ahead - space

-- the number nearest to `near` that is written w
abbrev pub nearest : ℕ → ℕ → ℕ → ℕ → ℕ
nearest space first near w = stepped space near (serial_difference space w (wire space first near))

-- what `nearest` gives, by its properties
pub record IsNearest (space first near w n : ℕ) : Type 0 where
  pub written : wire space first n ≡ w
  pub not_above : n ≤ near + space / 2
  pub not_below : near ≤ n + space / 2
