use Rattle.sctp_packet.proofs.LawLemmas.{one_packet_lem}
use Rattle.sctp_packet.proofs.laws.one_packet.Goals as goal

pub returns : goal.returns
returns c = one_packet_lem
