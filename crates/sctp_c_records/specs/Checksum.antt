-- The word of a packet, by what its socket was made with.
use Rattle.std.specs.Prelude.{ℕ, List}
use Rattle.sctp_crc32c.specs.Crc32c.{crc32c_word}
use Rattle.sctp_c_records.specs.declared.checksum.PacketChecksum.{PacketChecksum}
use Rattle.sctp_c_records.specs.declared.checksum.PacketChecksum.TheVariants.{Crc32c, Zero}

abbrev pub word_by : PacketChecksum → List ℕ → ℕ
word_by Crc32c bytes = crc32c_word bytes
word_by Zero bytes = 0
