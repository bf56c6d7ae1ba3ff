use Rattle.sctp_channels.proofs.MessageLemmas.{written_alike_lem}
use Rattle.sctp_channels.proofs.message_laws.written_alike.Goals as goal

pub returns : goal.returns
returns c = written_alike_lem
