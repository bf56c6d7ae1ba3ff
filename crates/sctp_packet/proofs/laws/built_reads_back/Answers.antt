use Rattle.sctp_packet.proofs.BuiltLemmas.{built_back}
use Rattle.sctp_packet.proofs.laws.built_reads_back.Goals as goal

pub returns : goal.returns
returns c = built_back
