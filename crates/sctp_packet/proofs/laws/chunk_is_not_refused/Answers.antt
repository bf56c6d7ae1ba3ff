use Rattle.sctp_packet.proofs.laws.chunk_is_not_refused.Goals as goal
use Rattle.sctp_packet.proofs.LawLemmas.{not_refused}

pub returns : goal.returns
returns c = not_refused
