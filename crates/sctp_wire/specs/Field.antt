-- Numbers as bytes, the most significant byte first (RFC 9260 section 3).
use Rattle.std.specs.Prelude.{◌≡◌, ℕ, List, length, refl}
use Rattle.std.specs.Int.{w16, w32, w64, to_be_bytes}

-- two bytes
unfoldable pub be16 : ℕ → List ℕ
be16 n = to_be_bytes w16 n

-- four bytes
unfoldable pub be32 : ℕ → List ℕ
be32 n = to_be_bytes w32 n

-- eight bytes
unfoldable pub be64 : ℕ → List ℕ
be64 n = to_be_bytes w64 n

pub length_be16 : (n : ℕ) → length (be16 n) ≡ 2
unfolding be16
length_be16 n = refl

pub length_be32 : (n : ℕ) → length (be32 n) ≡ 4
unfolding be32
length_be32 n = refl

pub length_be64 : (n : ℕ) → length (be64 n) ≡ 8
unfolding be64
length_be64 n = refl
