use Rattle.std.proofs.Common.{refl}
use Rattle.sctp_crc32c.specs.Crc32c.{tables, take_zeros, take_bits, take_bit}
use Rattle.sctp_crc32c.proofs.tables.Goals as goal

pub returns : goal.returns
unfolding tables take_zeros take_bits take_bit
returns c = refl
