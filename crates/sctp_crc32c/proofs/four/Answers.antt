use Rattle.sctp_crc32c.proofs.Slices.{four_from}
use Rattle.sctp_crc32c.proofs.four.Goals as goal

pub returns : goal.returns
returns c =
    four_from c.args.zeros c.args.bytes.0 c.args.bytes.1 c.args.bytes.2 c.args.bytes.3 _ _ _ _ c.entry-e0.ensures c.entry-e1.ensures c.entry-e2.ensures c.entry-e3.ensures
