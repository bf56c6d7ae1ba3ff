use Rattle.sctp_channels.proofs.MessageLemmas.{one_message_lem}
use Rattle.sctp_channels.proofs.message_laws.one_message.Goals as goal

pub returns : goal.returns
returns c = one_message_lem
