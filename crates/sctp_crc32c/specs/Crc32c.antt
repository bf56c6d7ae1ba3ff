-- CRC32c: RFC 3720 section 12.1, and RFC 9260 appendix A for its place in a packet.
-- A polynomial over two elements is a number whose lowest bit is the coefficient of its highest power.
use Rattle.std.specs.Prelude.{ℕ, zero, suc, ◌-◌, ◌*◌, ◌/◌, ◌%◌, ◌^◌, List, map, bit_xor}
use Rattle.std.specs.Int.{w32, swap_bytes}
use Rattle.std.specs.List.{fold, range_with_len}

-- x^28 + x^27 + x^26 + x^25 + x^23 + x^22 + x^20 + x^19 + x^18 + x^14 + x^13 + x^11 + x^10 + x^9 + x^8 + x^6 + 1,
-- to which x^32 is congruent
abbrev pub polynomial : ℕ
polynomial = 2197175160

-- one step of the division: the word times x, whose power 32 gives place to the polynomial
unfoldable pub take_bit : ℕ → ℕ
take_bit word = bit_xor (word / 2) (word % 2 * polynomial)

-- so many steps
unfoldable pub take_bits : ℕ → ℕ → ℕ
take_bits zero word = word
take_bits (suc count) word = take_bits count (take_bit word)

-- a byte is added, and divided bit by bit, its lowest first
abbrev pub take_byte : ℕ → ℕ → ℕ
take_byte word byte = take_bits 8 (bit_xor word byte)

-- so many zero bytes behind the word
unfoldable pub take_zeros : ℕ → ℕ → ℕ
take_zeros zero word = word
take_zeros (suc count) word = take_zeros count (take_bits 8 word)

-- what one zero byte makes of each word below 256; what two make of each; up to sixteen
unfoldable pub tables : List ℕ
tables = map (λ at. take_zeros (suc (at / 256)) (at % 256)) (range_with_len 0 4096)

-- the remainder of the bytes behind this word
abbrev pub remainder : ℕ → List ℕ → ℕ
remainder word bytes = fold take_byte word bytes

-- all bits set before, and all bits turned after
abbrev pub crc32c : List ℕ → ℕ
crc32c bytes = 2 ^ 32 - 1 - remainder (2 ^ 32 - 1) bytes

-- the word of a packet: its lowest byte comes first in the field
abbrev pub crc32c_word : List ℕ → ℕ
crc32c_word bytes = swap_bytes w32 (crc32c bytes)
