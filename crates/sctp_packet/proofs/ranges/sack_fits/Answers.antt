use Rattle.sctp_packet.proofs.RangeLemmas.{sack_fits_lem}
use Rattle.sctp_packet.proofs.ranges.sack_fits.Goals as goal

pub returns : goal.returns
returns c = sack_fits_lem _ _ _ c.requires c.deref.ensures.value c.deref-2.ensures.value c.number_fits.ensures c.number_fits-2.ensures c.blocks_fit.ensures c.tsns_fit.ensures
