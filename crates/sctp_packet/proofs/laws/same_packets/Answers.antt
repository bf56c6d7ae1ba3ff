use Rattle.sctp_packet.proofs.CanonicalLemmas.{canonical_lem}
use Rattle.sctp_packet.proofs.laws.same_packets.Goals as goal

pub returns : goal.returns
returns c = canonical_lem
