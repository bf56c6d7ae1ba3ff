use Rattle.sctp_channels.proofs.RunLemmas.{stays_silent}
use Rattle.sctp_channels.proofs.channel_laws.who_closes_sends_no_more.Goals as goal

pub returns : goal.returns
returns c = stays_silent
