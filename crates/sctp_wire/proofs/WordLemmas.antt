-- Numbers in two and four bytes at the front of a value, and tests that fail.
use Rattle.std.proofs.Common.{◌≡◌, ℕ, ◌+◌, ◌*◌, ◌/◌, ◌%◌, ◌<◌, ◌^◌, Bool, true, false, ◌||◌, List, ◌++◌, take, drop, refl, arith}
use Rattle.std.specs.Int.{w32, from_be_bytes}
use Rattle.std.proofs.lemmas.Nat.{from_be_bytes-to_be_bytes_4}
use Rattle.sctp_serial.specs.declared.types.tsn.Tsn.{Tsn}
use Rattle.sctp_wire.specs.Field.{be32}

pub clash : true ≡ false → ⊥
clash e = cc

pub neither : (a b : Bool) → (a || b) ≡ false → (a ≡ false) × (b ≡ false)
neither true b e = cc
neither false b e = (refl, e)

-- the number in four bytes
abbrev pub word : List ℕ → ℕ
word bytes = from_be_bytes w32 (take 4 bytes)

pub word_back : (n : ℕ) (x : List ℕ) → n < 2 ^ 32 → word (be32 n ++ x) ≡ n
unfolding be32
word_back n x h = from_be_bytes-to_be_bytes_4 n h

pub behind_word : (n : ℕ) (x : List ℕ) → drop 4 (be32 n ++ x) ≡ x
unfolding be32
behind_word n x = refl

abbrev pub tsn : ℕ → Tsn
tsn n = record { 0 = n }

pub two_bytes : (n : ℕ) → n < 2 ^ 16 → n / 256 % 256 * 256 + n % 256 ≡ n
two_bytes n h = omega arith
