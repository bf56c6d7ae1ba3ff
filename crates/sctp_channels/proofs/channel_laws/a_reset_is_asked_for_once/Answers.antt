use Rattle.sctp_channels.proofs.RunLemmas.{at_most_one_reset}
use Rattle.sctp_channels.proofs.channel_laws.a_reset_is_asked_for_once.Goals as goal

pub returns : goal.returns
returns c = at_most_one_reset
