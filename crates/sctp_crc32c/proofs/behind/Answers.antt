use Rattle.sctp_crc32c.proofs.Slices.{behind_from}
use Rattle.sctp_crc32c.proofs.behind.Goals as goal

pub returns : goal.returns
returns c =
    behind_from c.args.zeros c.args.word c.args.bytes.0 c.args.bytes.1 c.args.bytes.2 c.args.bytes.3 c.to_le_bytes-parts.result _ c.ranges.word.fits c.to_le_bytes-parts.ensures c.four.ensures
