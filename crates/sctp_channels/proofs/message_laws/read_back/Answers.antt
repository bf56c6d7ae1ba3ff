use Rattle.sctp_channels.proofs.MessageLemmas.{read_back_lem}
use Rattle.sctp_channels.proofs.message_laws.read_back.Goals as goal

pub returns : goal.returns
returns c = read_back_lem
