use Rattle.std.proofs.Common.{refl}
use Rattle.sctp_crc32c.proofs.Division.{entry_at}
use Rattle.sctp_crc32c.proofs.entry.Goals as goal

pub returns : goal.returns
returns c = entry_at _ c.args.zeros c.args.byte _ c.requires.tables c.requires.few c.ranges.byte.fits refl
