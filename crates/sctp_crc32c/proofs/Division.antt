-- Steps of the division are linear, so a byte's eight steps can be read from a table.
use Rattle.std.proofs.Common.{◌≡◌, ℕ, zero, suc, ◌+◌, ◌*◌, ◌/◌, ◌%◌, ◌^◌, ◌<◌, List, refl, ap, ap₂, pow-suc, mul_assoc, get_or, slice_index_or, map, sym, ◌∙◌, arith, bit_xor, bit_and}
use Rattle.std.proofs.lemmas.Nat.{xor_shr, xor_mod, xor_comm, xor_block, mod_below, shr_split, and_mask, and_le_r}
use Rattle.std.proofs.lemmas.List.FromFn.{get_or-map-range_with_len}
use Rattle.std.specs.List.{range_with_len}
use Rattle.std.specs.Int.Bits.{xor_zero_l, xor_zero_r}
use lib.Bits.{xor_assoc}
use Rattle.sctp_crc32c.specs.Crc32c.{polynomial, take_bit, take_bits, take_byte, take_zeros, tables}

-- two sums of two are turned about
pub xor_turned : (a b c d : ℕ) → bit_xor (bit_xor a b) (bit_xor c d) ≡ bit_xor (bit_xor a c) (bit_xor b d)
xor_turned a b c d =
    xor_assoc a b (bit_xor c d)
    ∙ ap (bit_xor a) (sym (xor_assoc b c d) ∙ ap (λ (x : ℕ). bit_xor x d) (xor_comm b c) ∙ xor_assoc c b d)
    ∙ sym (xor_assoc a c (bit_xor b d))

scaled : (a b : ℕ) → a < 2 → b < 2 → bit_xor a b * polynomial ≡ bit_xor (a * polynomial) (b * polynomial)
scaled zero zero la lb = refl
scaled zero (suc zero) la lb = refl
scaled (suc zero) zero la lb = refl
scaled (suc zero) (suc zero) la lb = refl
scaled (suc (suc a)) b la lb = absurd (omega arith)
scaled zero (suc (suc b)) la lb = absurd (omega arith)
scaled (suc zero) (suc (suc b)) la lb = absurd (omega arith)

-- a step of a sum is the sum of the steps
pub take_bit_xor : (a b : ℕ) → take_bit (bit_xor a b) ≡ bit_xor (take_bit a) (take_bit b)
unfolding take_bit
take_bit_xor a b =
    ap₂ (λ (x y : ℕ). bit_xor x (y * polynomial)) (xor_shr a b 1) (xor_mod a b 1)
    ∙ ap (bit_xor (bit_xor (a / 2) (b / 2))) (scaled (a % 2) (b % 2) (omega arith) (omega arith))
    ∙ xor_turned (a / 2) (b / 2) (a % 2 * polynomial) (b % 2 * polynomial)

pub take_bits_xor : (count a b : ℕ) → take_bits count (bit_xor a b) ≡ bit_xor (take_bits count a) (take_bits count b)
unfolding take_bits
take_bits_xor zero a b = refl
take_bits_xor (suc count) a b = ap (take_bits count) (take_bit_xor a b) ∙ take_bits_xor count (take_bit a) (take_bit b)

take_bit_even : (a : ℕ) → take_bit (a * 2) ≡ a
unfolding take_bit
take_bit_even a =
    let half : a * 2 / 2 ≡ a = omega arith in
    let rest : a * 2 % 2 ≡ 0 = omega arith in
    rw (half, rest) (xor_zero_r a)

-- what stands above the bits that are taken moves down
pub take_bits_high : (count a : ℕ) → take_bits count (a * 2 ^ count) ≡ a
unfolding take_bits
take_bits_high zero a =
    let e : a * 2 ^ 0 ≡ a = omega arith in
    e
take_bits_high (suc count) a =
    let e : a * 2 ^ suc count ≡ a * 2 ^ count * 2 = ap (λ (x : ℕ). a * x) (pow-suc 2 count) ∙ sym (mul_assoc a (2 ^ count) 2) in
    ap (λ (x : ℕ). take_bits count (take_bit x)) e ∙ ap (take_bits count) (take_bit_even (a * 2 ^ count)) ∙ take_bits_high count a

pub parted : (word : ℕ) → word ≡ bit_xor (word % 2 ^ 8) (word / 2 ^ 8 * 2 ^ 8)
parted word =
    let high : ℕ = word / 2 ^ 8 in
    let low : ℕ = word % 2 ^ 8 in
    let fits : low < 2 ^ 8 = mod_below word (2 ^ 8) (omega arith) in
    let joined : bit_xor (0 * 2 ^ 8 + low) (high * 2 ^ 8 + 0) ≡ bit_xor 0 high * 2 ^ 8 + bit_xor low 0 = xor_block 8 0 high low 0 fits (omega arith) in
    let left : low ≡ 0 * 2 ^ 8 + low = omega arith in
    let right : high * 2 ^ 8 ≡ high * 2 ^ 8 + 0 = omega arith in
    let whole : bit_xor 0 high * 2 ^ 8 + bit_xor low 0 ≡ word = rw (xor_zero_l high, xor_zero_r low) (shr_split word 8) in
    sym (ap₂ bit_xor left right ∙ joined ∙ whole)

-- a byte's steps are those of the lowest byte, and a move of the others
pub take_byte_parted : (word byte : ℕ) → byte < 2 ^ 8
    → take_byte word byte ≡ bit_xor (take_bits 8 (bit_and (bit_xor word byte) 255)) (word / 2 ^ 8)
take_byte_parted word byte fits =
    let added : ℕ = bit_xor word byte in
    let none : byte / 2 ^ 8 ≡ 0 = omega arith in
    let high : added / 2 ^ 8 ≡ word / 2 ^ 8 = xor_shr word byte 8 ∙ ap (bit_xor (word / 2 ^ 8)) none ∙ xor_zero_r (word / 2 ^ 8) in
    ap (take_bits 8) (parted added)
    ∙ take_bits_xor 8 (added % 2 ^ 8) (added / 2 ^ 8 * 2 ^ 8)
    ∙ ap₂ (λ (x y : ℕ). bit_xor (take_bits 8 x) y) (sym (and_mask added 8)) (take_bits_high 8 (added / 2 ^ 8) ∙ high)

-- the entry of so many zeros behind a byte
pub entry_at : (entries : List ℕ) (zeros byte place : ℕ) → entries ≡ tables → zeros < 16 → byte < 256 → place ≡ 256 * zeros + byte
    → slice_index_or entries place 0 ≡ take_zeros (suc zeros) byte
unfolding tables
entry_at entries zeros byte place e few fits is =
    let inside : place < 4096 = omega arith in
    let at : 0 + place ≡ place = omega arith in
    let read : get_or (map (λ (x : ℕ). take_zeros (suc (x / 256)) (x % 256)) (range_with_len 0 4096)) place 0 ≡ take_zeros (suc (place / 256)) (place % 256) =
    get_or-map-range_with_len (λ (x : ℕ). take_zeros (suc (x / 256)) (x % 256)) 0 4096 place place 0 inside at in
    let table : place / 256 ≡ zeros = omega arith in
    let left : place % 256 ≡ byte = omega arith in
    ap (λ (t : List ℕ). slice_index_or t place 0) e ∙ (read ∙ ap₂ (λ (x y : ℕ). take_zeros (suc x) y) table left)

-- the first table holds each byte's steps
pub table_at : (entries : List ℕ) (word byte : ℕ) → entries ≡ tables → byte < 2 ^ 8
    → bit_xor (slice_index_or entries (bit_and (bit_xor word byte) 255) 0) (word / 256) ≡ take_byte word byte
unfolding take_zeros
table_at entries word byte e fits =
    let place : ℕ = bit_and (bit_xor word byte) 255 in
    let inside : place < 256 = omega (arith, and_le_r (bit_xor word byte) 255) in
    ap (λ (x : ℕ). bit_xor x (word / 256)) (entry_at entries 0 place place e (omega arith) inside (omega arith)) ∙ sym (take_byte_parted word byte fits)
