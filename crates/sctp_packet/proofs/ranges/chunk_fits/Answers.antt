use Rattle.sctp_packet.proofs.RangeLemmas.{reads_back}
use Rattle.sctp_packet.proofs.ranges.chunk_fits.Goals as goal

pub returns-clause-reads_back : goal.returns-clause-reads_back
returns-clause-reads_back c = reads_back _ c.requires.encodable c.requires.whole c.outside_fits.ensures c.inside_fits.ensures
