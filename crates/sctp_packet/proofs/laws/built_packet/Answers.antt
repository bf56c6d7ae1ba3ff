use Rattle.sctp_packet.proofs.BuilderLemmas.{built_is_packet}
use Rattle.sctp_packet.proofs.laws.built_packet.Goals as goal

pub returns : goal.returns
returns c = built_is_packet
