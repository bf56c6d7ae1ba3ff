-- Numbers as bytes with the lowest first, and a packet under the checksum of the wire.
use Rattle.std.specs.Prelude.{ℕ, List, ◌++◌, take, drop, length, nat_lt, if◌then◌else◌}
use Rattle.std.specs.Int.{w16, w32, to_le_bytes}
use Rattle.sctp_wire.specs.Field.{be32}
use Rattle.sctp_wire.specs.Checksum.{with_zero_field}
use Rattle.sctp_crc32c.specs.Crc32c.{crc32c_word}

unfoldable pub le16 : ℕ → List ℕ
le16 n = to_le_bytes w16 n

unfoldable pub le32 : ℕ → List ℕ
le32 n = to_le_bytes w32 n

-- the packet with its CRC32c in the checksum's field (RFC 9260 section 3.1)
abbrev pub with_checksum : (before after : List ℕ) → List ℕ
with_checksum before after = before ++ (be32 (crc32c_word (with_zero_field before after)) ++ after)

-- bytes that have no whole common header stay as they are
abbrev pub with_crc32c : List ℕ → List ℕ
with_crc32c bytes = if nat_lt (length bytes) 12 then bytes else with_checksum (take 8 bytes) (drop 12 bytes)
