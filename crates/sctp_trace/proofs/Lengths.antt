-- How long the parts of a capture are.
use Rattle.std.proofs.Common.{◌≡◌, ℕ, ◌+◌, ◌/◌, ◌%◌, ◌^◌, ◌≤◌, List, ◌++◌, length, refl, arith, length-append}
use Rattle.std.proofs.lemmas.Bool.Decides.{nat_tests}
use Rattle.std.proofs.lemmas.List.{length-replicate, length-take, length-drop}
use Rattle.std.specs.Prelude.{Bool, true, false, if◌then◌else◌, nat_lt, take, drop, replicate}
use Rattle.sctp_crc32c.specs.Crc32c.{crc32c_word}
use Rattle.sctp_wire.specs.Checksum.{with_zero_field}
use Rattle.sctp_wire.specs.Field.{be32, length_be32}
use Rattle.sctp_wire.specs.Item.{padding}
use Rattle.sctp_trace.specs.Bytes.{le16, le32, with_checksum, with_crc32c}
use Rattle.sctp_trace.specs.Pcapng.{pad, option_bytes, packet_numbers, packet_body}

pub length_le16 : (n : ℕ) → length (le16 n) ≡ 2
unfolding le16
length_le16 n = refl

pub length_le32 : (n : ℕ) → length (le32 n) ≡ 4
unfolding le32
length_le32 n = refl

behind16 : (n : ℕ) (rest : List ℕ) → length (le16 n ++ rest) ≡ 2 + length rest
behind16 n rest = omega (arith, length-append (le16 n) rest, length_le16 n)

behind32 : (n : ℕ) (rest : List ℕ) → length (le32 n ++ rest) ≡ 4 + length rest
behind32 n rest = omega (arith, length-append (le32 n) rest, length_le32 n)

pub length_padded : (bytes : List ℕ) → length (pad bytes) ≡ length bytes + padding (length bytes)
unfolding pad
length_padded bytes =
    omega (arith, length-append bytes (replicate (padding (length bytes)) 0), length-replicate {A = ℕ} (padding (length bytes)) 0)

pub length_option : (code : ℕ) (value : List ℕ) → length (option_bytes code value) ≡ 4 + (length value + padding (length value))
unfolding option_bytes
length_option code value =
    omega (arith, behind16 code (le16 (length value) ++ pad value), behind16 (length value) (pad value), length_padded value)

length_numbers : (interface nanoseconds size : ℕ) → length (packet_numbers interface nanoseconds size) ≡ 20
length_numbers interface nanoseconds size = omega (
  arith,
  behind32 interface (le32 (nanoseconds / 2 ^ 32) ++ (le32 (nanoseconds % 2 ^ 32) ++ (le32 size ++ le32 size))),
  behind32 (nanoseconds / 2 ^ 32) (le32 (nanoseconds % 2 ^ 32) ++ (le32 size ++ le32 size)),
  behind32 (nanoseconds % 2 ^ 32) (le32 size ++ le32 size),
  behind32 size (le32 size),
  length_le32 size,
)

pub length_packet_body : (interface nanoseconds : ℕ) (packet comment : List ℕ)
    → length (packet_body interface nanoseconds packet comment) ≡ 28 + (length packet + padding (length packet)) + (length comment + padding (length comment))
unfolding packet_body
length_packet_body interface nanoseconds packet comment =
    let rest : List ℕ = option_bytes 1 comment ++ le32 0 in
    omega (
      arith,
      length-append (packet_numbers interface nanoseconds (length packet)) (pad packet ++ rest),
      length_numbers interface nanoseconds (length packet),
      length-append (pad packet) rest,
      length-append (option_bytes 1 comment) (le32 0),
      length_padded packet,
      length_option 1 comment,
      length_le32 0,
    )

length_summed : (is_short : Bool) (bytes : List ℕ) → nat_lt (length bytes) 12 ≡ is_short
    → length (if is_short then bytes else with_checksum (take 8 bytes) (drop 12 bytes)) ≡ length bytes
length_summed true bytes e = refl
length_summed false bytes e =
    let word : ℕ = crc32c_word (with_zero_field (take 8 bytes) (drop 12 bytes)) in
    let whole : 12 ≤ length bytes = grind (arith, nat_tests) in
    omega (
      arith,
      length-append (take 8 bytes) (be32 word ++ drop 12 bytes),
      length-append (be32 word) (drop 12 bytes),
      length_be32 word,
      length-take 8 bytes,
      length-drop 12 bytes,
    )

pub length_with_crc32c : (bytes : List ℕ) → length (with_crc32c bytes) ≡ length bytes
length_with_crc32c bytes = length_summed (nat_lt (length bytes) 12) bytes refl
