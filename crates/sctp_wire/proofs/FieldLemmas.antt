-- Numbers at the front of bytes.
use Rattle.std.proofs.Common.{◌≡◌, ℕ, ◌^◌, ◌<◌, ◌≤◌, List, ◌++◌, length, take, drop, refl, sym, ap, ◌∙◌, arith, inl, inr}
use Rattle.std.specs.Int.{w16, w32, w64, from_be_bytes, to_be_bytes}
use Rattle.std.proofs.lemmas.Nat.{be_bytes_2, be_bytes_4, be_bytes_8, from_be_bytes-to_be_bytes_2, from_be_bytes-to_be_bytes_4}
use Rattle.std.proofs.lemmas.Bool.{cases_lt}
use Rattle.std.proofs.lemmas.List.{take-append-drop, length-take-le, get_or-take, get_or_past, length-take}
use Rattle.sctp_wire.specs.Field.{be16, be32, be64}
use Rattle.sctp_item.proofs.ItemLemmas.{IsBytes}
use Rattle.sctp_wire.proofs.ParsesAllLemmas.{cut_same}

pub IsBytes_take : (n : ℕ) (bytes : List ℕ) → IsBytes bytes → IsBytes (take n bytes)
IsBytes_take n bytes h i =
    elim (cases_lt i n) [
      | inl lt ↦ rw (get_or-take n bytes i 0 lt) (h i)
      | inr le ↦ rw (get_or_past (take n bytes) i 0 (omega (arith, length-take n bytes))) (omega arith)
    ]

pub be16_front : (bytes : List ℕ) (n : ℕ) → IsBytes bytes → 2 ≤ length bytes → n ≡ from_be_bytes w16 (take 2 bytes) → bytes ≡ be16 n ++ drop 2 bytes
unfolding be16
be16_front bytes n fits long e =
    sym (ap (λ (x : List ℕ). x ++ drop 2 bytes) (be_bytes_2 (take 2 bytes) n (length-take-le 2 bytes long) (IsBytes_take 2 bytes fits) e) ∙ take-append-drop 2 bytes)

pub be32_front : (bytes : List ℕ) (n : ℕ) → IsBytes bytes → 4 ≤ length bytes → n ≡ from_be_bytes w32 (take 4 bytes) → bytes ≡ be32 n ++ drop 4 bytes
unfolding be32
be32_front bytes n fits long e =
    sym (ap (λ (x : List ℕ). x ++ drop 4 bytes) (be_bytes_4 (take 4 bytes) n (length-take-le 4 bytes long) (IsBytes_take 4 bytes fits) e) ∙ take-append-drop 4 bytes)

pub be64_front : (bytes : List ℕ) (n : ℕ) → IsBytes bytes → 8 ≤ length bytes → n ≡ from_be_bytes w64 (take 8 bytes) → bytes ≡ be64 n ++ drop 8 bytes
unfolding be64
be64_front bytes n fits long e =
    sym (ap (λ (x : List ℕ). x ++ drop 8 bytes) (be_bytes_8 (take 8 bytes) n (length-take-le 8 bytes long) (IsBytes_take 8 bytes fits) e) ∙ take-append-drop 8 bytes)

-- two numbers that are spelled alike, and what stands behind them
pub same16 : (m n : ℕ) → m < 2 ^ 16 → n < 2 ^ 16 → be16 m ≡ be16 n → m ≡ n
unfolding be16
same16 m n hm hn e = sym (from_be_bytes-to_be_bytes_2 m hm) ∙ ap (from_be_bytes w16) e ∙ from_be_bytes-to_be_bytes_2 n hn

pub same32 : (m n : ℕ) → m < 2 ^ 32 → n < 2 ^ 32 → be32 m ≡ be32 n → m ≡ n
unfolding be32
same32 m n hm hn e = sym (from_be_bytes-to_be_bytes_4 m hm) ∙ ap (from_be_bytes w32) e ∙ from_be_bytes-to_be_bytes_4 n hn

pub be16_same : (m n : ℕ) (x y : List ℕ) → m < 2 ^ 16 → n < 2 ^ 16 → be16 m ++ x ≡ be16 n ++ y → (m ≡ n) × (x ≡ y)
unfolding be16
be16_same m n x y hm hn e =
    let parts = cut_same (to_be_bytes w16 m) x (to_be_bytes w16 n) y refl e in
    (same16 m n hm hn parts.0, parts.1)

pub be32_same : (m n : ℕ) (x y : List ℕ) → m < 2 ^ 32 → n < 2 ^ 32 → be32 m ++ x ≡ be32 n ++ y → (m ≡ n) × (x ≡ y)
unfolding be32
be32_same m n x y hm hn e =
    let parts = cut_same (to_be_bytes w32 m) x (to_be_bytes w32 n) y refl e in
    (same32 m n hm hn parts.0, parts.1)
