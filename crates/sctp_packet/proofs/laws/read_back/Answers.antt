use Rattle.sctp_packet.proofs.LawLemmas.{read_back_lem}
use Rattle.sctp_packet.proofs.laws.read_back.Goals as goal

pub returns : goal.returns
returns c = read_back_lem
