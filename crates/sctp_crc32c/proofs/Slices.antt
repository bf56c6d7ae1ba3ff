-- Bytes at once: the division's steps are linear, so what is left of several bytes is the sum of what is left of each, with zeros behind it.
use Rattle.std.proofs.Common.{◌≡◌, ℕ, zero, suc, ◌+◌, ◌-◌, ◌≤◌, ◌*◌, ◌/◌, ◌%◌, ◌^◌, ◌<◌, List, [], ◌∷◌, length, refl, ap, ap₂, sym, ◌∙◌, arith, bit_xor, slice_index_or, take, drop}
use Rattle.std.proofs.Math.Seq.{take-length}
use Rattle.std.proofs.lemmas.Nat.{xor_block, xor_comm}
use Rattle.std.specs.Int.{w32, to_le_bytes}
use Rattle.std.specs.Int.Bits.{xor_zero_l, xor_zero_r}
use lib.Bits.{xor_assoc}
use Rattle.sctp_crc32c.specs.Crc32c.{take_bits, take_byte, take_zeros, remainder}
use Rattle.sctp_crc32c.proofs.Division.{xor_turned, parted, take_bits_xor, take_bits_high}

pub take_zeros_xor : (count a b : ℕ) → take_zeros count (bit_xor a b) ≡ bit_xor (take_zeros count a) (take_zeros count b)
unfolding take_zeros
take_zeros_xor zero a b = refl
take_zeros_xor (suc count) a b = ap (take_zeros count) (take_bits_xor 8 a b) ∙ take_zeros_xor count (take_bits 8 a) (take_bits 8 b)

-- the bytes as one number, the first the lowest
abbrev number_of : List ℕ → ℕ
number_of [] = 0
number_of (byte ∷ bytes) = bit_xor byte (number_of bytes * 2 ^ 8)

-- the bytes behind a word are steps of their sum
remainder_whole : (bytes : List ℕ) (word : ℕ) → remainder word bytes ≡ take_zeros (length bytes) (bit_xor word (number_of bytes))
unfolding take_zeros
remainder_whole [] word = sym (xor_zero_r word)
remainder_whole (byte ∷ bytes) word =
    let high : take_bits 8 (number_of bytes * 2 ^ 8) ≡ number_of bytes = take_bits_high 8 (number_of bytes) in
    let step : take_bits 8 (bit_xor word (bit_xor byte (number_of bytes * 2 ^ 8))) ≡ bit_xor (take_byte word byte) (number_of bytes) =
    ap (take_bits 8) (sym (xor_assoc word byte (number_of bytes * 2 ^ 8)))
    ∙ (take_bits_xor 8 (bit_xor word byte) (number_of bytes * 2 ^ 8) ∙ ap (bit_xor (take_byte word byte)) high) in
    remainder_whole bytes (take_byte word byte) ∙ sym (ap (take_zeros (length bytes)) step)

-- a word's part and the bytes' part
pub remainder_split : (bytes : List ℕ) (word : ℕ) → remainder word bytes ≡ bit_xor (take_zeros (length bytes) word) (remainder 0 bytes)
remainder_split bytes word =
    remainder_whole bytes word
    ∙ (take_zeros_xor (length bytes) word (number_of bytes)
    ∙ ap (bit_xor (take_zeros (length bytes) word)) (sym (remainder_whole bytes 0 ∙ ap (take_zeros (length bytes)) (xor_zero_l (number_of bytes)))))

-- a byte's part and the part of those behind it
remainder_first : (byte : ℕ) (bytes : List ℕ) → remainder 0 (byte ∷ bytes) ≡ bit_xor (take_zeros (suc (length bytes)) byte) (remainder 0 bytes)
unfolding take_zeros
remainder_first byte bytes =
    ap (λ (x : ℕ). remainder (take_bits 8 x) bytes) (xor_zero_l byte) ∙ remainder_split bytes (take_bits 8 byte)

pub four_behind_zero : (b4 b5 b6 b7 : ℕ)
    → bit_xor (take_zeros 4 b4) (bit_xor (take_zeros 3 b5) (bit_xor (take_zeros 2 b6) (take_zeros 1 b7))) ≡ remainder 0 (b4 ∷ b5 ∷ b6 ∷ b7 ∷ [])
four_behind_zero b4 b5 b6 b7 =
    let last : remainder 0 (b7 ∷ []) ≡ take_zeros 1 b7 = remainder_first b7 [] ∙ xor_zero_r (take_zeros 1 b7) in
    let two : remainder 0 (b6 ∷ b7 ∷ []) ≡ bit_xor (take_zeros 2 b6) (take_zeros 1 b7) = remainder_first b6 (b7 ∷ []) ∙ ap (bit_xor (take_zeros 2 b6)) last in
    let three : remainder 0 (b5 ∷ b6 ∷ b7 ∷ []) ≡ bit_xor (take_zeros 3 b5) (bit_xor (take_zeros 2 b6) (take_zeros 1 b7)) =
    remainder_first b5 (b6 ∷ b7 ∷ []) ∙ ap (bit_xor (take_zeros 3 b5)) two in
    sym (remainder_first b4 (b5 ∷ b6 ∷ b7 ∷ []) ∙ ap (bit_xor (take_zeros 4 b4)) three)

-- a part with zeros behind it, and the bytes in their place
with_zeros_behind : (count word : ℕ) (bytes : List ℕ) → length bytes ≡ count → remainder word bytes ≡ bit_xor (take_zeros count word) (remainder 0 bytes)
with_zeros_behind count word bytes is = remainder_split bytes word ∙ ap (λ (n : ℕ). bit_xor (take_zeros n word) (remainder 0 bytes)) is

-- of four bytes each by itself, with zeros behind all
pub four_from : (zeros b0 b1 b2 b3 e0 e1 e2 e3 : ℕ) → e0 ≡ take_zeros (suc (zeros + 3)) b0 → e1 ≡ take_zeros (suc (zeros + 2)) b1
    → e2 ≡ take_zeros (suc (zeros + 1)) b2 → e3 ≡ take_zeros (suc zeros) b3
    → bit_xor e0 (bit_xor e1 (bit_xor e2 e3)) ≡ take_zeros zeros (remainder 0 (b0 ∷ b1 ∷ b2 ∷ b3 ∷ []))
unfolding take_zeros
four_from zeros b0 b1 b2 b3 e0 e1 e2 e3 q0 q1 q2 q3 =
    let n0 : suc (zeros + 3) ≡ suc (suc (suc (suc zeros))) = omega arith in
    let n1 : suc (zeros + 2) ≡ suc (suc (suc zeros)) = omega arith in
    let n2 : suc (zeros + 1) ≡ suc (suc zeros) = omega arith in
    let at0 : e0 ≡ take_zeros zeros (take_zeros 4 b0) = q0 ∙ ap (λ (n : ℕ). take_zeros n b0) n0 in
    let at1 : e1 ≡ take_zeros zeros (take_zeros 3 b1) = q1 ∙ ap (λ (n : ℕ). take_zeros n b1) n1 in
    let at2 : e2 ≡ take_zeros zeros (take_zeros 2 b2) = q2 ∙ ap (λ (n : ℕ). take_zeros n b2) n2 in
    let at3 : e3 ≡ take_zeros zeros (take_zeros 1 b3) = q3 in
    let two : bit_xor (take_zeros zeros (take_zeros 2 b2)) (take_zeros zeros (take_zeros 1 b3)) ≡ take_zeros zeros (bit_xor (take_zeros 2 b2) (take_zeros 1 b3)) =
    sym (take_zeros_xor zeros (take_zeros 2 b2) (take_zeros 1 b3)) in
    let three : bit_xor (take_zeros zeros (take_zeros 3 b1)) (take_zeros zeros (bit_xor (take_zeros 2 b2) (take_zeros 1 b3)))
    ≡ take_zeros zeros (bit_xor (take_zeros 3 b1) (bit_xor (take_zeros 2 b2) (take_zeros 1 b3))) =
    sym (take_zeros_xor zeros (take_zeros 3 b1) (bit_xor (take_zeros 2 b2) (take_zeros 1 b3))) in
    let all : bit_xor (take_zeros zeros (take_zeros 4 b0)) (take_zeros zeros (bit_xor (take_zeros 3 b1) (bit_xor (take_zeros 2 b2) (take_zeros 1 b3))))
    ≡ take_zeros zeros (bit_xor (take_zeros 4 b0) (bit_xor (take_zeros 3 b1) (bit_xor (take_zeros 2 b2) (take_zeros 1 b3)))) =
    sym (take_zeros_xor zeros (take_zeros 4 b0) (bit_xor (take_zeros 3 b1) (bit_xor (take_zeros 2 b2) (take_zeros 1 b3)))) in
    ap₂ bit_xor at0 (ap₂ bit_xor at1 (ap₂ bit_xor at2 at3 ∙ two) ∙ three)
    ∙ (all ∙ ap (take_zeros zeros) (four_behind_zero b0 b1 b2 b3))

-- sixteen bytes are four and twelve zeros behind them, four and eight, four and four, and the last four
pub sixteen : (word b0 b1 b2 b3 b4 b5 b6 b7 b8 b9 b10 b11 b12 b13 b14 b15 : ℕ)
    → bit_xor (take_zeros 12 (remainder word (b0 ∷ b1 ∷ b2 ∷ b3 ∷ []))) (bit_xor (take_zeros 8 (remainder 0 (b4 ∷ b5 ∷ b6 ∷ b7 ∷ [])))
    (bit_xor (take_zeros 4 (remainder 0 (b8 ∷ b9 ∷ b10 ∷ b11 ∷ []))) (remainder 0 (b12 ∷ b13 ∷ b14 ∷ b15 ∷ []))))
    ≡ remainder word (b0 ∷ b1 ∷ b2 ∷ b3 ∷ b4 ∷ b5 ∷ b6 ∷ b7 ∷ b8 ∷ b9 ∷ b10 ∷ b11 ∷ b12 ∷ b13 ∷ b14 ∷ b15 ∷ [])
sixteen word b0 b1 b2 b3 b4 b5 b6 b7 b8 b9 b10 b11 b12 b13 b14 b15 =
    let front : ℕ = remainder word (b0 ∷ b1 ∷ b2 ∷ b3 ∷ []) in
    let second : ℕ = remainder 0 (b4 ∷ b5 ∷ b6 ∷ b7 ∷ []) in
    let third : ℕ = remainder 0 (b8 ∷ b9 ∷ b10 ∷ b11 ∷ []) in
    let eight_left : remainder 0 (b8 ∷ b9 ∷ b10 ∷ b11 ∷ b12 ∷ b13 ∷ b14 ∷ b15 ∷ []) ≡ bit_xor (take_zeros 4 third) (remainder 0 (b12 ∷ b13 ∷ b14 ∷ b15 ∷ [])) =
    with_zeros_behind 4 third (b12 ∷ b13 ∷ b14 ∷ b15 ∷ []) refl in
    let twelve_left : remainder 0 (b4 ∷ b5 ∷ b6 ∷ b7 ∷ b8 ∷ b9 ∷ b10 ∷ b11 ∷ b12 ∷ b13 ∷ b14 ∷ b15 ∷ [])
    ≡ bit_xor (take_zeros 8 second) (remainder 0 (b8 ∷ b9 ∷ b10 ∷ b11 ∷ b12 ∷ b13 ∷ b14 ∷ b15 ∷ [])) =
    with_zeros_behind 8 second (b8 ∷ b9 ∷ b10 ∷ b11 ∷ b12 ∷ b13 ∷ b14 ∷ b15 ∷ []) refl in
    let all : remainder word (b0 ∷ b1 ∷ b2 ∷ b3 ∷ b4 ∷ b5 ∷ b6 ∷ b7 ∷ b8 ∷ b9 ∷ b10 ∷ b11 ∷ b12 ∷ b13 ∷ b14 ∷ b15 ∷ [])
    ≡ bit_xor (take_zeros 12 front) (remainder 0 (b4 ∷ b5 ∷ b6 ∷ b7 ∷ b8 ∷ b9 ∷ b10 ∷ b11 ∷ b12 ∷ b13 ∷ b14 ∷ b15 ∷ [])) =
    with_zeros_behind 12 front (b4 ∷ b5 ∷ b6 ∷ b7 ∷ b8 ∷ b9 ∷ b10 ∷ b11 ∷ b12 ∷ b13 ∷ b14 ∷ b15 ∷ []) refl in
    sym (all ∙ ap (bit_xor (take_zeros 12 front)) (twelve_left ∙ ap (bit_xor (take_zeros 8 second)) eight_left))

-- a sum of two numbers, byte by byte
one_more : (a b x y : ℕ) → bit_xor (bit_xor a (x * 2 ^ 8)) (bit_xor b (y * 2 ^ 8)) ≡ bit_xor (bit_xor a b) (bit_xor x y * 2 ^ 8)
one_more a b x y =
    let left : x * 2 ^ 8 ≡ x * 2 ^ 8 + 0 = omega arith in
    let right : y * 2 ^ 8 ≡ y * 2 ^ 8 + 0 = omega arith in
    let whole : bit_xor x y * 2 ^ 8 + 0 ≡ bit_xor x y * 2 ^ 8 = omega arith in
    xor_turned a (x * 2 ^ 8) b (y * 2 ^ 8)
    ∙ ap (bit_xor (bit_xor a b)) (ap₂ bit_xor left right ∙ (xor_block 8 x y 0 0 (omega arith) (omega arith) ∙ whole))

-- a word, and four bytes: the bytes of their sum behind the word 0
behind_at : (word b0 b1 b2 b3 w0 w1 w2 w3 : ℕ) → word ≡ bit_xor w0 (bit_xor w1 (bit_xor w2 (w3 * 2 ^ 8) * 2 ^ 8) * 2 ^ 8)
    → remainder 0 (bit_xor b0 w0 ∷ bit_xor b1 w1 ∷ bit_xor b2 w2 ∷ bit_xor b3 w3 ∷ []) ≡ remainder word (b0 ∷ b1 ∷ b2 ∷ b3 ∷ [])
behind_at word b0 b1 b2 b3 w0 w1 w2 w3 e =
    let y0 : ℕ = bit_xor b0 w0 in
    let y1 : ℕ = bit_xor b1 w1 in
    let y2 : ℕ = bit_xor b2 w2 in
    let y3 : ℕ = bit_xor b3 w3 in
    let n3 : ℕ = number_of (b3 ∷ []) in
    let n2 : ℕ = number_of (b2 ∷ b3 ∷ []) in
    let n1 : ℕ = number_of (b1 ∷ b2 ∷ b3 ∷ []) in
    let n0 : ℕ = number_of (b0 ∷ b1 ∷ b2 ∷ b3 ∷ []) in
    let sum3 : bit_xor n3 w3 ≡ number_of (y3 ∷ []) =
    ap (λ (x : ℕ). bit_xor x w3) (xor_zero_r b3) ∙ sym (xor_zero_r y3) in
    let sum2 : bit_xor n2 (bit_xor w2 (w3 * 2 ^ 8)) ≡ number_of (y2 ∷ y3 ∷ []) =
    one_more b2 w2 n3 w3 ∙ ap (λ (x : ℕ). bit_xor y2 (x * 2 ^ 8)) sum3 in
    let sum1 : bit_xor n1 (bit_xor w1 (bit_xor w2 (w3 * 2 ^ 8) * 2 ^ 8)) ≡ number_of (y1 ∷ y2 ∷ y3 ∷ []) =
    one_more b1 w1 n2 (bit_xor w2 (w3 * 2 ^ 8)) ∙ ap (λ (x : ℕ). bit_xor y1 (x * 2 ^ 8)) sum2 in
    let sum0 : bit_xor n0 (bit_xor w0 (bit_xor w1 (bit_xor w2 (w3 * 2 ^ 8) * 2 ^ 8) * 2 ^ 8)) ≡ number_of (y0 ∷ y1 ∷ y2 ∷ y3 ∷ []) =
    one_more b0 w0 n1 (bit_xor w1 (bit_xor w2 (w3 * 2 ^ 8) * 2 ^ 8)) ∙ ap (λ (x : ℕ). bit_xor y0 (x * 2 ^ 8)) sum1 in
    let sum : bit_xor word n0 ≡ bit_xor 0 (number_of (y0 ∷ y1 ∷ y2 ∷ y3 ∷ [])) =
    xor_comm word n0 ∙ (ap (bit_xor n0) e ∙ (sum0 ∙ sym (xor_zero_l (number_of (y0 ∷ y1 ∷ y2 ∷ y3 ∷ []))))) in
    remainder_whole (y0 ∷ y1 ∷ y2 ∷ y3 ∷ []) 0 ∙ (sym (ap (take_zeros 4) sum) ∙ sym (remainder_whole (b0 ∷ b1 ∷ b2 ∷ b3 ∷ []) word))

word_parts : (word : ℕ) → word < 2 ^ 32
    → word ≡ bit_xor (word % 256) (bit_xor (word / 256 % 256) (bit_xor (word / 65536 % 256) (word / 16777216 % 256 * 2 ^ 8) * 2 ^ 8) * 2 ^ 8)
word_parts word fits =
    let second : word / 2 ^ 8 / 2 ^ 8 ≡ word / 65536 = omega arith in
    let third : word / 65536 / 2 ^ 8 ≡ word / 16777216 % 256 = omega arith in
    let at2 : word / 65536 ≡ bit_xor (word / 65536 % 256) (word / 16777216 % 256 * 2 ^ 8) =
    parted (word / 65536) ∙ ap (λ (x : ℕ). bit_xor (word / 65536 % 256) (x * 2 ^ 8)) third in
    let at1 : word / 2 ^ 8 ≡ bit_xor (word / 256 % 256) (bit_xor (word / 65536 % 256) (word / 16777216 % 256 * 2 ^ 8) * 2 ^ 8) =
    parted (word / 2 ^ 8) ∙ ap (λ (x : ℕ). bit_xor (word / 256 % 256) (x * 2 ^ 8)) (second ∙ at2) in
    parted word ∙ ap (λ (x : ℕ). bit_xor (word % 256) (x * 2 ^ 8)) at1

pub behind_from : (zeros word b0 b1 b2 b3 : ℕ) (parts : List ℕ) (f : ℕ) → word < 2 ^ 32 → parts ≡ to_le_bytes w32 word
    → f ≡ take_zeros zeros (remainder 0 (bit_xor b0 (slice_index_or parts 0 0) ∷ bit_xor b1 (slice_index_or parts 1 0) ∷ bit_xor b2 (slice_index_or parts 2 0) ∷ bit_xor b3 (slice_index_or parts 3 0) ∷ []))
    → f ≡ take_zeros zeros (remainder word (b0 ∷ b1 ∷ b2 ∷ b3 ∷ []))
behind_from zeros word b0 b1 b2 b3 parts f fits p q =
    let read : f ≡ take_zeros zeros (remainder 0 (bit_xor b0 (word % 256) ∷ bit_xor b1 (word / 256 % 256) ∷ bit_xor b2 (word / 65536 % 256) ∷ bit_xor b3 (word / 16777216 % 256) ∷ [])) =
    q ∙ ap (λ (t : List ℕ). take_zeros zeros (remainder 0 (bit_xor b0 (slice_index_or t 0 0) ∷ bit_xor b1 (slice_index_or t 1 0) ∷ bit_xor b2 (slice_index_or t 2 0) ∷ bit_xor b3 (slice_index_or t 3 0) ∷ []))) p in
    read ∙ ap (take_zeros zeros) (behind_at word b0 b1 b2 b3 (word % 256) (word / 256 % 256) (word / 65536 % 256) (word / 16777216 % 256) (word_parts word fits))

-- a word, and the next sixteen bytes taken at once
pub on_by_sixteen : (word n : ℕ) (bytes : List ℕ) (e f g h : ℕ) → n ≡ length bytes → 16 ≤ length bytes
    → e ≡ take_zeros 12 (remainder word (slice_index_or bytes 0 0 ∷ slice_index_or bytes 1 0 ∷ slice_index_or bytes 2 0 ∷ slice_index_or bytes 3 0 ∷ []))
    → f ≡ take_zeros 8 (remainder 0 (slice_index_or bytes 4 0 ∷ slice_index_or bytes 5 0 ∷ slice_index_or bytes 6 0 ∷ slice_index_or bytes 7 0 ∷ []))
    → g ≡ take_zeros 4 (remainder 0 (slice_index_or bytes 8 0 ∷ slice_index_or bytes 9 0 ∷ slice_index_or bytes 10 0 ∷ slice_index_or bytes 11 0 ∷ []))
    → h ≡ take_zeros 0 (remainder 0 (slice_index_or bytes 12 0 ∷ slice_index_or bytes 13 0 ∷ slice_index_or bytes 14 0 ∷ slice_index_or bytes 15 0 ∷ []))
    → remainder (bit_xor e (bit_xor f (bit_xor g h))) (take (n - 16) (drop 16 bytes)) ≡ remainder word bytes
unfolding take_zeros
on_by_sixteen word n [] e f g h p long q r s t = absurd (omega arith)
on_by_sixteen word n (b0 ∷ []) e f g h p long q r s t = absurd (omega arith)
on_by_sixteen word n (b0 ∷ b1 ∷ []) e f g h p long q r s t = absurd (omega arith)
on_by_sixteen word n (b0 ∷ b1 ∷ b2 ∷ []) e f g h p long q r s t = absurd (omega arith)
on_by_sixteen word n (b0 ∷ b1 ∷ b2 ∷ b3 ∷ []) e f g h p long q r s t = absurd (omega arith)
on_by_sixteen word n (b0 ∷ b1 ∷ b2 ∷ b3 ∷ b4 ∷ []) e f g h p long q r s t = absurd (omega arith)
on_by_sixteen word n (b0 ∷ b1 ∷ b2 ∷ b3 ∷ b4 ∷ b5 ∷ []) e f g h p long q r s t = absurd (omega arith)
on_by_sixteen word n (b0 ∷ b1 ∷ b2 ∷ b3 ∷ b4 ∷ b5 ∷ b6 ∷ []) e f g h p long q r s t = absurd (omega arith)
on_by_sixteen word n (b0 ∷ b1 ∷ b2 ∷ b3 ∷ b4 ∷ b5 ∷ b6 ∷ b7 ∷ []) e f g h p long q r s t = absurd (omega arith)
on_by_sixteen word n (b0 ∷ b1 ∷ b2 ∷ b3 ∷ b4 ∷ b5 ∷ b6 ∷ b7 ∷ b8 ∷ []) e f g h p long q r s t = absurd (omega arith)
on_by_sixteen word n (b0 ∷ b1 ∷ b2 ∷ b3 ∷ b4 ∷ b5 ∷ b6 ∷ b7 ∷ b8 ∷ b9 ∷ []) e f g h p long q r s t = absurd (omega arith)
on_by_sixteen word n (b0 ∷ b1 ∷ b2 ∷ b3 ∷ b4 ∷ b5 ∷ b6 ∷ b7 ∷ b8 ∷ b9 ∷ b10 ∷ []) e f g h p long q r s t = absurd (omega arith)
on_by_sixteen word n (b0 ∷ b1 ∷ b2 ∷ b3 ∷ b4 ∷ b5 ∷ b6 ∷ b7 ∷ b8 ∷ b9 ∷ b10 ∷ b11 ∷ []) e f g h p long q r s t = absurd (omega arith)
on_by_sixteen word n (b0 ∷ b1 ∷ b2 ∷ b3 ∷ b4 ∷ b5 ∷ b6 ∷ b7 ∷ b8 ∷ b9 ∷ b10 ∷ b11 ∷ b12 ∷ []) e f g h p long q r s t = absurd (omega arith)
on_by_sixteen word n (b0 ∷ b1 ∷ b2 ∷ b3 ∷ b4 ∷ b5 ∷ b6 ∷ b7 ∷ b8 ∷ b9 ∷ b10 ∷ b11 ∷ b12 ∷ b13 ∷ []) e f g h p long q r s t = absurd (omega arith)
on_by_sixteen word n (b0 ∷ b1 ∷ b2 ∷ b3 ∷ b4 ∷ b5 ∷ b6 ∷ b7 ∷ b8 ∷ b9 ∷ b10 ∷ b11 ∷ b12 ∷ b13 ∷ b14 ∷ []) e f g h p long q r s t = absurd (omega arith)
on_by_sixteen word n (b0 ∷ b1 ∷ b2 ∷ b3 ∷ b4 ∷ b5 ∷ b6 ∷ b7 ∷ b8 ∷ b9 ∷ b10 ∷ b11 ∷ b12 ∷ b13 ∷ b14 ∷ b15 ∷ tail) e f g h p long q r s t =
    let left : n - 16 ≡ length tail = omega arith in
    ap₂ remainder (ap₂ bit_xor q (ap₂ bit_xor r (ap₂ bit_xor s t)) ∙ sixteen word b0 b1 b2 b3 b4 b5 b6 b7 b8 b9 b10 b11 b12 b13 b14 b15) (ap (λ (k : ℕ). take k tail) left ∙ take-length tail)

-- the next four
pub on_by_four : (word n : ℕ) (bytes : List ℕ) (e : ℕ) → n ≡ length bytes → 4 ≤ length bytes → e ≡ take_zeros 0 (remainder word (slice_index_or bytes 0 0 ∷ slice_index_or bytes 1 0 ∷ slice_index_or bytes 2 0 ∷ slice_index_or bytes 3 0 ∷ []))
    → remainder e (take (n - 4) (drop 4 bytes)) ≡ remainder word bytes
unfolding take_zeros
on_by_four word n [] e p long q = absurd (omega arith)
on_by_four word n (b0 ∷ []) e p long q = absurd (omega arith)
on_by_four word n (b0 ∷ b1 ∷ []) e p long q = absurd (omega arith)
on_by_four word n (b0 ∷ b1 ∷ b2 ∷ []) e p long q = absurd (omega arith)
on_by_four word n (b0 ∷ b1 ∷ b2 ∷ b3 ∷ tail) e p long q =
    let left : n - 4 ≡ length tail = omega arith in
    ap₂ remainder q (ap (λ (k : ℕ). take k tail) left ∙ take-length tail)
