use Rattle.sctp_crc32c.proofs.Division.{table_at}
use Rattle.sctp_crc32c.proofs.take_byte.Goals as goal

pub returns : goal.returns
returns c = table_at _ c.args.word c.args.byte c.requires c.ranges.byte.fits
